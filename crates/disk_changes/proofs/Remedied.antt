-- What it says that an image isn't taken.
use Rattle.std.proofs.Common.{◌≡◌, ℕ, List, length, refl}
use Rattle.command_faults.specs.declared.faults.CommandFault.{CommandFault}
use Rattle.command_faults.specs.declared.faults.CommandFault.TheVariants as faults
use Rattle.damaged_files.specs.declared.sides.planning.Loss.TheVariants.{Refused}
use Rattle.disk_changes.specs.Judged.{IsUntaken}
use Rattle.disk_changes.specs.Remedies.{HasNoneCut, IsLackOfMemory}

-- it has the size of an image, and there was memory: so a file of it is cut short
pub one-cut : (image : List ℕ) (fault : CommandFault) → length image ≡ 174848 → IsUntaken image Refused fault
    → (IsLackOfMemory fault → ⊥) → HasNoneCut image → ⊥
one-cut image faults.ImageSize size untaken tried none = untaken size
one-cut image faults.NoMemory size untaken tried none = tried refl
one-cut image (faults.Short p) size untaken tried none = none p untaken.1.0
one-cut image faults.Geos size untaken tried none = none untaken.1.1.0 untaken.1.1.1
one-cut image _ size untaken tried none = untaken
