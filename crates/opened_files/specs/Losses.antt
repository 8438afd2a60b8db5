-- What becomes of a disk that has lost a part of a file. All of it is our own.
use Rattle.std.specs.Prelude.{◌≡◌, ℕ, IfErr, IsErr, List, ◌⊎◌, Option, Some, None, Result, Err, length}
use Rattle.damaged_files.specs.declared.sides.planning.Loss.{Loss}
use Rattle.damaged_files.specs.declared.sides.planning.Loss.TheVariants as losses
use Rattle.d64_image.specs.declared.place.Place.{Place}
use Rattle.command_faults.specs.declared.faults.CommandFault.{CommandFault}
use Rattle.damaged_files.specs.cut.Told.{IsCutShort, IsShortfallOf}
use Rattle.damaged_files.specs.declared.cut.shortfalls.Shortfall.{Shortfall}
use Rattle.damaged_files.specs.declared.cut.shortfalls.Shortfall.TheVariants as lacks
use Rattle.d64_image.specs.Memory.{sectors_in}
use Rattle.command_faults.specs.declared.faults.CommandFault.TheVariants as faults
use Rattle.opened_files.specs.Ends.{JobEnd, as_run}
use Rattle.opened_files.specs.HostFiles.{RunEnds}
use Rattle.image_log.specs.life.Tags.{SaysLogAway}

-- what is seen of an image, if it has the size of a disk
abbrev pub IsSeen : (image : List ℕ) → Option Shortfall → Type 0
IsSeen image (Some lack) = (length image ≡ 174848) × IsShortfallOf (sectors_in image) (Some lack)
IsSeen image None = length image ≡ 174848 → IsShortfallOf (sectors_in image) None

-- that a file is cut short, if the files lack that
abbrev pub short_refusal : Option Shortfall → Option CommandFault
short_refusal None = None
short_refusal (Some (lacks.Short p)) = Some (faults.Short p)
short_refusal (Some (lacks.Fewer p)) = None

-- Why a job isn't begun that accepts no loss: a file of the image is cut short, and its chain ends there; or there was
-- no memory to see.
abbrev pub IsLossFault : (image : List ℕ) → CommandFault → Type 0
IsLossFault image refusal = ((p : Place) × (refusal ≡ faults.Short p) × IsCutShort image p)
    ⊎ (refusal ≡ faults.NoMemory)

-- no log has the rest of the image, or what it has may be lost
abbrev pub IsNear : Loss → (image : List ℕ) → Type 0
IsNear loss image = (loss ≡ losses.Accepted) ⊎ (¬ (SaysLogAway image))

-- a job is refused since the log of its image is away: the image says so, and that loss isn't accepted
abbrev pub IsAwayFault : Loss → (Says : Type 0) → CommandFault → Type 0
IsAwayFault loss Says refusal = (refusal ≡ faults.LogAway) × (loss ≡ losses.Refused) × Says

-- the same of an image that has no tag any more if that loss is accepted
abbrev pub IsTagFault : Loss → (image : List ℕ) → CommandFault → Type 0
IsTagFault loss image refusal = IsAwayFault loss (SaysLogAway image) refusal
    ⊎ ((refusal ≡ faults.Device) × (loss ≡ losses.Accepted) × SaysLogAway image)

-- a job ended so for that, and nothing was printed
abbrev pub IsAwayEnd : {W : Type 0} → Loss → (Says : Type 0) → W → W → JobEnd → Type 0
IsAwayEnd loss Says old new end = (new ≡ old) × IsErr end × IfErr end (IsAwayFault loss Says)

-- a run ended so, and the job with it; or the run wasn't begun, perhaps for that
abbrev pub NearRunEnds : {W : Type 0} → Loss → (Says : Type 0) → W → W → JobEnd → Type 0 → Type 0
NearRunEnds loss Says old new end run = RunEnds old new end run ⊎ IsAwayEnd loss Says old new end

-- no file of the image is cut short, or what is lost may be lost
abbrev pub MayBeLost : (image : List ℕ) → Loss → Type 0
MayBeLost image loss = (loss ≡ losses.Accepted) ⊎ ((p : Place) → ¬ (IsCutShort image p))

-- whether a job may change the image: a refusal, or none
abbrev pub IsJudged : (image : List ℕ) → Loss → Option CommandFault → Type 0
IsJudged image loss None = MayBeLost image loss
IsJudged image loss (Some refusal) = (loss ≡ losses.Refused) × IsLossFault image refusal

-- a run that prints no fault and ended so is reported as this end
abbrev pub IsEndOfRun : (Result Unit CommandFault → Type 0) → JobEnd → Type 0
IsEndOfRun IsRun end = (ended : Result Unit CommandFault) × (end ≡ as_run ended) × IsRun ended
