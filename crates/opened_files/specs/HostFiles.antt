-- Which bytes a job is done over, where the host says what its files hold. Our own.
use Rattle.std.specs.Prelude.{◌≡◌, ◌≢◌, ◌⊎◌, ⊤, ℕ, IfErr, IsErr, List}
use Rattle.command_faults.specs.declared.faults.CommandFault.TheVariants as faults
use Rattle.image_file.specs.paths.Rights.{Rights}
use Rattle.image_file.specs.paths.Standing.{Holds, IsMissing, Stands}
use Rattle.opened_files.specs.Ends.{JobEnd}
use Rattle.opened_files.specs.Rights.{standard_input}
use Rattle.command_faults.specs.declared.faults.CommandFault.{CommandFault}
use Rattle.image_log.specs.life.LogRights.{WhereItLeads, log_of}

module _ {H : Type 0} (stands : H → List ℕ → Stands) (host : H) where
  -- this holds of the bytes of the script or the text at a path, if the host says them
  abbrev pub OfText : List ℕ → (List ℕ → Type 0) → Type 0
  OfText path P = path ≢ standard_input → (all : List ℕ) → stands host path ≡ Holds all → P all

  -- the same of an image that is written
  abbrev pub OfWritten : List ℕ → (List ℕ → Type 0) → Type 0
  OfWritten path P = (all : List ℕ) → stands host path ≡ Holds all → P all

module _ {H : Type 0} (rights : Rights H) (stands : H → List ℕ → Stands) (host : H) where
  -- no log stands beside the image at a path
  abbrev pub HasNoLog : List ℕ → Type 0
  HasNoLog path = WhereItLeads rights host (λ image. IsMissing stands host (log_of image)) path

  -- this holds of the bytes of the image at a path, if the host says them, and that it has no log
  abbrev pub OfImageFile : List ℕ → (List ℕ → Type 0) → Type 0
  OfImageFile path P = HasNoLog path → (all : List ℕ) → stands host path ≡ Holds all → P all

  -- the same, unless the path is that of standard input, of which a host says nothing
  abbrev pub OfImage : List ℕ → (List ℕ → Type 0) → Type 0
  OfImage path P = path ≢ standard_input → OfImageFile path P

-- a file wasn't opened, locked or read whole
abbrev pub IsUnread : CommandFault → Type 0
IsUnread faults.InUse = ⊤
IsUnread faults.NotReady = ⊤
IsUnread faults.File = ⊤
IsUnread faults.NoMemory = ⊤
IsUnread _ = ⊥

-- or it has a second name
abbrev pub IsUntaken : CommandFault → Type 0
IsUntaken refusal = IsUnread refusal ⊎ (refusal ≡ faults.TwoNames)

-- or it is an image's, and has another length
abbrev pub IsUnopened : CommandFault → Type 0
IsUnopened refusal = IsUntaken refusal ⊎ (refusal ≡ faults.ImageSize)

-- or what it held couldn't be synced, or a log beside it gives no image
abbrev pub IsUnbegun : CommandFault → Type 0
IsUnbegun refusal = IsUntaken refusal ⊎ ((refusal ≡ faults.Device) ⊎ (refusal ≡ faults.Log))

-- the run over the bytes of a job's files ended so, and the job with it; or the run wasn't begun, and nothing was printed
abbrev pub RunEnds : {W : Type 0} → W → W → JobEnd → Type 0 → Type 0
RunEnds old new end run = run ⊎ ((new ≡ old) × IsErr end × IfErr end IsUnbegun)

-- the same of a run that prints to two outputs
abbrev pub TrimEnds : {W E : Type 0} → W → W → E → E → JobEnd → Type 0 → Type 0
TrimEnds old new old_err new_err end run =
    run ⊎ ((new ≡ old) × (new_err ≡ old_err) × IsErr end × IfErr end IsUnbegun)
