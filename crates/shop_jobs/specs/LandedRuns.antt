-- How a service over a log ends, whose log is landed then. All of it is our own.
use Rattle.std.specs.Prelude.{◌≡◌, ◌≤◌, ℕ, Bool, if◌then◌else◌, Option, Some, None, Ok, Err, ◌≢◌, ◌⊎◌, IfSome, IsOk, IsSome}
use Rattle.command_faults.specs.declared.faults.CommandFault.TheVariants as faults
use Rattle.image_log.specs.declared.life.landing.LogFault.{LogFault}
use Rattle.command_faults.specs.declared.faults.CommandFault.{CommandFault}
use Rattle.d64_image.specs.Images.{Image}
use Rattle.host_session.specs.shop.Shop.{IsSettled, Shop}
use Rattle.image_log.specs.life.Bringing.{RestsAlone}
use Rattle.image_log.specs.life.Folders.{Folder, FolderHistory}
use Rattle.image_log.specs.life.LiveLogs.{GivesAtMost, IsEnding, of_live}
use Rattle.image_log.specs.declared.life.live_log.LiveLog.{LiveLog}
use Rattle.image_log.specs.declared.log_file.LogFile.{Ghosts}
use Rattle.opened_files.specs.Ends.{JobEnd, log_refusal}

-- it ended well, or only its input or output failed
abbrev pub IsServedOut : JobEnd → Type 0
IsServedOut end = IsOk end ⊎ (end ≡ Err faults.File)

-- A service ended so over a log in a folder, and this end is reported.
pub record IsLandedEnd {F D : Type 0} {G : Ghosts F} (h : FolderHistory D) (log : LiveLog F D G) (ended : JobEnd)
    (folder : Option D) (end : JobEnd) : Type 0 where
  -- the log of one that ended with `Device` is left where it is
  pub left : ended ≡ Err faults.Device → (end ≡ ended) × (folder ≡ None)
  -- otherwise it is landed: if the end is reported as good, or as one of the input or the output, IMAGE has what the log
  -- stood for, and there is no log
  pub tried : ended ≢ Err faults.Device → IsSome folder
  pub landed : (image : Image) → (of_live h).stands_for log image → IsServedOut end
      → IfSome folder (λ d. RestsAlone h d image)
  -- and however it's reported, a power loss while it was landed left what it might have left before, or this image
  pub moments : (image : Image) → (of_live h).stands_for log image → IfSome folder (λ d. IsEnding h log d image)
  -- what is reported is how it ended, or that the log couldn't be landed
  pub told : (end ≡ ended) ⊎ ((end ≡ Err faults.Device) ⊎ (end ≡ Err faults.NoMemory))

-- the end of a service that ended so, and whose image's file has gone or hasn't
abbrev pub watched_end : (gone : Bool) → JobEnd → JobEnd
watched_end gone ended = if gone then Err faults.Device else ended

-- Something was done over a log in a folder, and left the log with this end. Then the log was landed, as after a service
-- with this end; or as after one with `Device`, if the image's file had gone.
pub record IsDoneAndLanded {F D : Type 0} {G : Ghosts F} (h : FolderHistory D) (IsDone : LiveLog F D G → JobEnd → Type 0)
    (gone : Bool) (folder : Option D) (end : JobEnd) : Type 0 where
  pub left : LiveLog F D G
  pub ended : JobEnd
  pub done : IsDone left ended
  pub landed : IsLandedEnd h left (watched_end gone ended) folder end

-- IMAGE is that of this shop at rest, and no log stands beside it
abbrev pub HasLanded : {D : Type 0} → FolderHistory D → Shop → Option D → Type 0
HasLanded h s None = ⊥
HasLanded h s (Some folder) = (image : Image) × IsSettled image s × RestsAlone h folder image

-- a log stands for an image that is this shop's at rest
abbrev pub StandsAtRest : {F D : Type 0} {G : Ghosts F} → FolderHistory D → Shop → LiveLog F D G → Type 0
StandsAtRest h s log = (image : Image) × IsSettled image s × (of_live h).stands_for log image

module _ {D : Type 0} (h : FolderHistory D) where
  -- a power loss at some moment from that one on might have left a folder that gives this image, if it gives one
  abbrev pub LeftImage : D → ℕ → Image → Type 0
  LeftImage d t image = (left : Folder) × h.left_since d t left × GivesAtMost left image

  -- A power loss at any moment from old to new left a folder that gives an image with P.
  pub record LeavesShops (old new : D) (P : Image → Type 0) : Type 0 where
    pub later : h.moment old ≤ h.moment new
    pub each : (image : Image) → LeftImage new (h.moment old) image → P image
    -- for a run that began earlier
    pub before : (t : ℕ) (image : Image) → t ≤ h.moment old → LeftImage new t image → LeftImage old t image ⊎ P image

-- what is reported of a log that can't be landed for this reason
abbrev pub landing_fault : CommandFault → CommandFault
landing_fault faults.NoMemory = faults.NoMemory
landing_fault _ = faults.Device

-- how a service ends that ended so, and whose log can't be landed for this fault
abbrev pub unlanded : JobEnd → LogFault → JobEnd
unlanded (Ok _) fault = Err (landing_fault (log_refusal fault))
unlanded (Err faults.File) fault = Err (landing_fault (log_refusal fault))
unlanded (Err refusal) fault = Err refusal
