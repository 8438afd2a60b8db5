-- What comes of a script that is played on a shop's disk, and on its image over the image's file. All of it is our own.
use Rattle.std.specs.Prelude.{◌≡◌, ◌≢◌, ◌⊎◌, List, ℕ, None, Some, Result, Ok, Err, length}
use Rattle.d64_image.specs.FileDisks.{FileDisk, in_run}
use Rattle.d64_image.specs.History.{History}
use Rattle.d64_image.specs.Keeps.{FileFailed, Keeps}
use Rattle.d64_image.specs.Memory.{sectors_in}
use Rattle.host_session.specs.declared.runs.scripts.ScriptFault.{ScriptFault}
use Rattle.host_session.specs.events.Telling.{Output}
use Rattle.host_session.specs.runs.ScriptRuns.{IsScriptRun}
use Rattle.line_text.specs.scripts.Lines.{lines}
use Rattle.line_text.specs.scripts.Resets.{first_bad}
use Rattle.shop_commands.specs.Faults.{script_fault}
use Rattle.shop_commands.specs.Shops.{IsOpenRefusal}
use Rattle.command_faults.specs.declared.faults.CommandFault.{CommandFault}
use Rattle.command_faults.specs.declared.faults.CommandFault.TheVariants as faults

-- How a play of a script ended. Either the run of the script ended so, and its replies were handed on; or each line was
-- played and its reply passed, but the replies weren't handed on.
abbrev pub IsPlayEnd : {D T : Type 0} → History D → Output T → D → List ℕ → T → T → Result D (CommandFault × D) → Type 0
IsPlayEnd h o disk script old new (Ok left) = IsScriptRun h o disk script old new (Ok left) × o.is_handed_on new
IsPlayEnd h o disk script old new (Err e) =
    ((e.0 ≡ faults.File) × IsScriptRun h o disk script old new (Ok e.1))
    ⊎ ((fault : ScriptFault) × (e.0 ≡ script_fault fault) × IsScriptRun h o disk script old new (Err (fault, e.1)))

-- The image of a file was taken up: the file is a disk that holds it, and was left as another, in the end `after`.
pub record IsTakenUp {F : Type 0} (K : Keeps F) (image : List ℕ) (file after : F) (Ends : FileDisk K → FileDisk K
    → Type 0) : Type 0 where
  pub size : length image ≡ 174848
  pub disk : FileDisk K
  pub is_file : disk.file ≡ file
  pub holds : disk.image ≡ sectors_in image
  pub left : FileDisk K
  pub is_after : left.file ≡ after
  pub ends : Ends disk left

-- The script was played on the disk of the file to this end.
abbrev pub IsPlayedOver : {F T : Type 0} → (K : Keeps F) → Output T → (image script : List ℕ) → F → F → T → T
    → (FileDisk K → Result (FileDisk K) (CommandFault × FileDisk K)) → Type 0
IsPlayedOver K o image script file after old new end =
    IsTakenUp K image file after (λ disk left. IsPlayEnd (in_run K file) o disk script old new (end left))

-- No call of the file failed.
abbrev pub IsUnfailed : {F : Type 0} → Keeps F → F → F → Type 0
IsUnfailed K old new = K.failures new ≡ K.failures old

-- each line of the script was played on the disk of the file, and its reply passed and handed on
abbrev pub IsPlayedFile : {F T : Type 0} → Keeps F → Output T → (image script : List ℕ) → F → F → T → T → Type 0
IsPlayedFile K o image script file after old new =
    IsUnfailed K file after × IsPlayedOver K o image script file after old new (λ left. Ok left)

-- The file failed; whatever the play then ended with.
abbrev pub IsStopped : {F T : Type 0} → Keeps F → Output T → (image script : List ℕ) → F → F → T → T → Type 0
IsStopped {F} {T} K o image script file after old new =
    FileFailed K file after × (IsPlayedOver K o image script file after old new (λ left. Ok left)
    ⊎ ((fault : CommandFault) × IsPlayedOver K o image script file after old new (λ left. Err (fault, left))))

-- the file and the output are as they were
abbrev pub IsUntouched : {F T : Type 0} → F → F → T → T → Type 0
IsUntouched file after old new = (after ≡ file) × (new ≡ old)

-- Why a script isn't played to its end: its size, memory, a bad line or that it is no shop's, and then nothing was
-- done; the output; or the file.
abbrev pub IsFileFault : {F T : Type 0} → Keeps F → Output T → (image script : List ℕ) → F → F → T → T → CommandFault
    → Type 0
IsFileFault K o image script file after old new faults.ImageSize = (length image ≢ 174848) × IsUntouched file after old new
IsFileFault K o image script file after old new faults.NoMemory = (length image ≡ 174848) × IsUntouched file after old new
IsFileFault K o image script file after old new (faults.ScriptLine line) =
    (length image ≡ 174848) × (first_bad (lines script) ≡ Some line) × IsUntouched file after old new
IsFileFault K o image script file after old new faults.File =
    IsUnfailed K file after × IsPlayedOver K o image script file after old new (λ left. Err (faults.File, left))
IsFileFault K o image script file after old new faults.Device = IsStopped K o image script file after old new
IsFileFault K o image script file after old new fault =
    (first_bad (lines script) ≡ None) × IsOpenRefusal image fault × IsUntouched file after old new
