-- What a service or a play over a log leaves in the folder of its image. Our own.
use Rattle.std.specs.Prelude.{◌≡◌, ◌⊎◌, ◌++◌, ◌+◌, ◌∷◌, [], ℕ, IfSome, IsErr, List, None, OnOk, Option, Some, length, option_to_list, string_bytes, take, true}
use Rattle.std.specs.declared.io.traits.Read.{Ghosts as ReadGhosts}
use Rattle.std.specs.declared.io.traits.Seek.{Ghosts as SeekGhosts}
use Rattle.d64_image.specs.Images.{Image}
use Rattle.d64_image.specs.Memory.{sectors_in}
use Rattle.host_session.specs.runs.Chains.{told_in}
use Rattle.host_session.specs.shop.Shop.{Shop, start_of}
use Rattle.image_file.specs.declared.paths.host.HostFiles.{Ghosts as HostGhosts}
use Rattle.image_file.specs.paths.Rights.{Rights, Write}
use Rattle.image_file.specs.paths.Standing.{Stands}
use Rattle.image_file.specs.paths.Traces.{Traces}
use Rattle.image_log.specs.declared.life.image_folder.ImageFolder.{ImageFolder}
use Rattle.image_log.specs.declared.life.live_log.LiveLog.{LiveLog}
use Rattle.image_log.specs.declared.log_file.LogFile.{Ghosts}
use Rattle.image_log.specs.life.Folders.{AllLeft, Folder, FolderHistory}
use Rattle.image_log.specs.life.HostLogs.{FolderHistories, LogHistories}
use Rattle.image_log.specs.life.LiveLogs.{IsBeginning, IsEnding, of_live}
use Rattle.image_log.specs.life.Shops.{Gives, GivesOneOf}
use Rattle.line_server.specs.Read.{AreWhole, LacksLf}
use Rattle.line_server.specs.Scripts.{crlf_text}
use Rattle.line_server.specs.logged.Serves.{AreFirst, HoldsFirst, IsSafe, shop_behind}
use Rattle.line_text.specs.scripts.Lines.{lines}
use Rattle.opened_files.specs.Ends.{JobEnd}
use Rattle.opened_files.specs.HostFiles.{OfText, OfWritten}
use Rattle.request_cards.specs.Ledgers.{replies}
use Rattle.request_cards.specs.declared.reply.Reply.{Reply}
use Rattle.shop_jobs.specs.JobOutputs.{ArePassed, OverLogs, lines_over}
use Rattle.shop_jobs.specs.LandedRuns.{HasLanded, IsServedOut, LeftImage, StandsAtRest}
use Rattle.shop_jobs.specs.Replies.{IsShopOf}

-- a folder of this host was opened: it is that of the image at a path, whose file was opened there
abbrev pub IsFolderAt : {H F : Type 0} {g : HostGhosts H F} {r : ReadGhosts F} {s : SeekGhosts F} → Rights H → Traces H F → H
    → (path : List ℕ) → ImageFolder H F g r s → Type 0
IsFolderAt rights traces host path d = (d.at.rt.now ≡ host)
    × (rights.leads host path (string_bytes d.at.names.now.image) ≡ true) × traces.opened host Write path d.at.image

module _ {F D : Type 0} {G : Ghosts F} (h : FolderHistory D) where
  -- A log was begun in such a folder. If it is known that the folder gave an image, it gave this one, for which the log stands,
  -- and so did each folder that a power loss left meanwhile.
  abbrev pub IsBegunIn : (IsAt : D → Type 0) → (image : List ℕ) → LiveLog F D G → Type 0
  IsBegunIn IsAt image begun = (folder : D) × IsAt folder × ((c : Image) (s : Folder) → h.held folder ≡ Some s
      → GivesOneOf (c ∷ []) s → AllLeft h folder (GivesOneOf (c ∷ []))
      → (of_live h).stands_for begun (sectors_in image) × Gives s (sectors_in image)
      × IsBeginning h folder begun (λ left. Gives left (sectors_in image)))

  -- Since each of these replies was passed on, the first of them to line k, and until the folder is this one, a power loss left the
  -- shop of first lines with that line among them.
  abbrev pub StayIn : D → Shop → (ls : List (List ℕ)) → (k : ℕ) → List (Reply × LiveLog F D G) → Type 0
  StayIn d s ls k [] = Unit {0}
  StayIn d s ls k (x ∷ xs) = ((c : Image) → LeftImage h d ((of_live h).moment x.1) c → HoldsFirst s ls (k + 1) c)
      × StayIn d s ls (k + 1) xs

  -- Lines of an input with these bytes were served, over a log that was begun for the image of these bytes, and the job ended
  -- so. `Told` says which replies were passed on, each over the log beside it, and that nothing else was.
  pub record IsServedIn (image : List ℕ) (given : Option (List ℕ)) (begun : LiveLog F D G)
      (Told : List (Reply × LiveLog F D G) → Option (Reply × LiveLog F D G) → Type 0) (end : JobEnd) : Type 0 where
    -- the log as the service left it, and the folder in which it was landed
    pub left : LiveLog F D G
    pub folder : Option D
    -- the lines that were handled, each with its LF, and what was read after them, which is no line
    pub handled : List ℕ
    pub rest : List ℕ
    pub whole : AreWhole handled
    pub lacks : LacksLf rest
    pub read : (all : List ℕ) → given ≡ Some all → (later : List ℕ) × (all ≡ (handled ++ rest) ++ later)
    -- However the job ended, these replies were passed on, each over the log as it was then; and the last one, if there is one,
    -- in whole, in part or not at all. Nothing else was passed on.
    pub turns : List (Reply × LiveLog F D G)
    pub last : Option (Reply × LiveLog F D G)
    pub told : Told turns last
    -- they are the shop's replies to the first of these lines, to all but those of one batch
    pub replies_are : (s : Shop) → IsShopOf image s
        → AreFirst (told_in (turns ++ option_to_list last)) (replies (start_of s) [] (lines handled))
    -- A power loss at any moment leaves the shop of some first lines; and since a reply was passed on, whole or in part, of first
    -- lines with its own among them.
    pub safe : (s : Shop) → IsShopOf image s → (of_live h).stands_for begun (sectors_in image)
        → IsSafe (of_live h) s (sectors_in image) (lines handled) (turns ++ option_to_list last) begun left
    -- so it does while the log is landed, too
    pub stays : (s : Shop) → IsShopOf image s → (of_live h).stands_for begun (sectors_in image)
        → IfSome folder (λ d. StayIn d s (lines handled) 0 (turns ++ option_to_list last))
    -- a power loss while the log was landed leaves the image for which the log stood
    pub landing : (c : Image) → (of_live h).stands_for left c → IfSome folder (λ d. IsEnding h left d c)
    -- when the job is done, these are all lines of the input, a shop's, and each was answered
    pub all : OnOk end ((all : List ℕ) → given ≡ Some all → all ≡ handled ++ rest)
    pub shop : OnOk end ((s : Shop) × IsShopOf image s)
    pub answered : OnOk end ((last ≡ None) × (length turns ≡ length (lines handled)))
    -- then, and if the input or the output failed, IMAGE is the shop after these lines at rest, with no log; the log stood for it
    pub done : IsServedOut end → (s : Shop) → IsShopOf image s → (of_live h).stands_for begun (sectors_in image)
        → HasLanded h (shop_behind s (lines handled)) folder × StandsAtRest h (shop_behind s (lines handled)) left

  -- so they were; or the image was refused, and nothing was passed on
  abbrev pub IsServedOrNot : {T : Type 0} → (image : List ℕ) → Option (List ℕ) → LiveLog F D G
      → (Told : List (Reply × LiveLog F D G) → Option (Reply × LiveLog F D G) → Type 0) → T → T → JobEnd → Type 0
  IsServedOrNot image given begun Told old new end = (IsErr end × (new ≡ old)) ⊎ IsServedIn image given begun Told end

-- the same of a log that was begun in such a folder, for an image of these bytes
abbrev pub IsServedAt : {F D : Type 0} (G : Ghosts F) (h : FolderHistory D) (IsAt : D → Type 0) (Of : List ℕ → Type 0)
    → Option (List ℕ) → (Told : List (Reply × LiveLog F D G) → Option (Reply × LiveLog F D G) → Type 0) → JobEnd → Type 0
IsServedAt {F} {D} G h IsAt Of given Told end = (image : List ℕ) × Of image × (begun : LiveLog F D G)
    × IsBegunIn h IsAt image begun × IsServedIn h image given begun Told end

module _ {H F W : Type 0} (g : HostGhosts H F) (r : ReadGhosts F) (s : SeekGhosts F) (logs : LogHistories H F)
    (folders : FolderHistories H F) (stands : H → List ℕ → Stands) (rights : Rights H) (traces : Traces H F)
    (contents : W → Option (List ℕ)) (o : OverLogs W) where
  -- the shop of the image at a path of a host was served the lines of an input with these bytes, and the replies were printed
  abbrev pub IsServiceAt : Option (List ℕ) → H → (path : List ℕ) → W → W → JobEnd → Type 0
  IsServiceAt given host path old new end = IsServedAt (record { history = logs g r s }) (folders g r s)
      (λ d. IsFolderAt rights traces host path d) (λ image. OfWritten stands host path (λ all. image ≡ take 174849 all)) given
      (ArePassed (lines_over contents (o _)) old new) end

  -- so it was; or it wasn't, and nothing was printed
  abbrev pub IsServiceKept : Option (List ℕ) → H → (path : List ℕ) → W → W → JobEnd → Type 0
  IsServiceKept given host path old new end = (IsErr end × (new ≡ old)) ⊎ IsServiceAt given host path old new end

  -- the same of a play, whose input has the lines of the script at a path, each with CR and LF
  abbrev pub IsPlayKept : H → (path script : List ℕ) → W → W → JobEnd → Type 0
  IsPlayKept host path script old new end = (IsErr end × (new ≡ old)) ⊎ ((text : List ℕ)
      × OfText stands host script (λ all. text ≡ all) × IsServiceAt (Some (crlf_text (lines text))) host path old new end)
