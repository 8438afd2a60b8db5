-- What a job prints that changes files of a disk, or makes an image. Our own.
use Rattle.std.specs.Prelude.{◌≡◌, ℕ, List, None, Option, Result, Ok, Err, if◌then◌else◌, nat_eq, true, ⊤}
use Rattle.command_faults.specs.declared.faults.CommandFault.TheVariants as faults
use Rattle.disk_changes.specs.declared.changes.Changed.{Changed}
use Rattle.command_faults.specs.declared.faults.CommandFault.{CommandFault}
use Rattle.folder_changes.specs.FolderChanges.{IsShownAs, IsToldAs}
use Rattle.image_file.specs.paths.Rights.{Rights}
use Rattle.opened_files.specs.Ends.{EndsAs, JobEnd}

-- what came of a change, as a job's end: so many sectors are left, or it was stopped
abbrev pub as_change : Result ℕ CommandFault → JobEnd
as_change (Ok n) = if nat_eq n 0 then Ok None else Err (faults.StraysLeft n)
as_change (Err fault) = Err fault

-- A job that changes an image ended so. This holds of what comes of the change, and its text was printed; or this holds of
-- why it isn't made, and nothing was; or the image couldn't be kept, and nothing was printed; or nothing of it was tried; or
-- the output failed.
abbrev pub IsChangeEnd : {W : Type 0} → (W → Option (List ℕ)) → (Changed → Type 0) → (CommandFault → Type 0) → W → W → JobEnd → Type 0
IsChangeEnd contents Is Refuses old new end = EndsAs as_change end (IsToldAs contents Is Refuses ⊤ old new)

-- the same of a job that only prints what a change would print
abbrev pub IsShownEnd : {W : Type 0} → (W → Option (List ℕ)) → (Changed → Type 0) → (CommandFault → Type 0) → W → W → JobEnd → Type 0
IsShownEnd contents Is Refuses old new end = EndsAs as_change end (IsShownAs contents Is Refuses old new)

-- the image of these bytes in the file to which a path leads was changed to what the change made
abbrev pub IsChangedAt : {H : Type 0} → Rights H → (changed : H → (path image : List ℕ) → Changed → Type 0) → H
    → (path image : List ℕ) → Changed → Type 0
IsChangedAt rights changed host path image made =
    (found : List ℕ) × (rights.leads host path found ≡ true) × changed host found image made
