-- How a job ends that plays a script or serves. Our own.
use Rattle.std.specs.Prelude.{◌≡◌, ◌≢◌, ◌⊎◌, IfErr, IfOk, IsErr, List, ℕ, None, take}
use Rattle.command_faults.specs.declared.faults.CommandFault.TheVariants as faults
use Rattle.opened_files.specs.Ends.{JobEnd}
use Rattle.command_faults.specs.declared.faults.CommandFault.{CommandFault}
use Rattle.opened_files.specs.HostFiles.{IsUnopened, OfWritten}
use Rattle.damaged_files.specs.declared.sides.planning.Loss.{Loss}
use Rattle.damaged_files.specs.declared.sides.planning.Loss.TheVariants as losses
use Rattle.image_file.specs.paths.Standing.{Stands}
use Rattle.image_log.specs.life.Tags.{SaysLogAway}

-- a job that isn't done printed nothing, unless the output or the file failed
abbrev pub IsQuietEnd : {W : Type 0} → W → W → JobEnd → Type 0
IsQuietEnd old new end = IfErr end (λ refusal. refusal ≢ faults.File → refusal ≢ faults.Device
    → new ≡ old)

-- A service over a log that is done printed no fault. One that isn't printed nothing, unless the input, the output or the log
-- failed. If there was no memory, the log may not have been landed once all was printed.
abbrev pub IsLoggedEnd : {W : Type 0} → W → W → JobEnd → Type 0
IsLoggedEnd old new end = IfOk end (λ found. found ≡ None)
    × IfErr end (λ refusal. refusal ≢ faults.NoMemory → refusal ≢ faults.File
    → refusal ≢ faults.Device → new ≡ old)

-- why a job over the image at a path isn't done: if that its log is away, the image says so, and that loss isn't accepted
abbrev pub IsNearFault : {H : Type 0} → (H → List ℕ → Stands) → H → List ℕ → Loss → CommandFault → Type 0
IsNearFault stands host path loss refusal = refusal ≡ faults.LogAway
    → (loss ≡ losses.Refused) × OfWritten stands host path (λ all. SaysLogAway (take 174849 all))

-- A job over the image at a path ended so. An image whose log is away is refused unless that loss is accepted, and nothing is
-- printed; no other image is refused for that.
abbrev pub IsNearEnd : {H W : Type 0} → (H → List ℕ → Stands) → H → List ℕ → Loss → W → W → JobEnd → Type 0
IsNearEnd stands host path loss old new end = IfErr end (IsNearFault stands host path loss) × (loss ≡ losses.Refused
    → OfWritten stands host path (λ all. SaysLogAway (take 174849 all) → IsErr end × (new ≡ old)))

-- a job was refused for this line of its script, once its files were open
abbrev pub IsRefusedAt : ℕ → CommandFault → Type 0
IsRefusedAt line refusal = (refusal ≡ (faults.ScriptLine line)) ⊎ IsUnopened refusal
