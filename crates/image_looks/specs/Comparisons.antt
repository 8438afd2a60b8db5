-- What comes of two images that are compared. All of it is our own.
use Rattle.std.specs.Prelude.{◌≡◌, ◌≢◌, ◌⊎◌, ◌++◌, ℕ, List, Option, Err}
use Rattle.std.specs.Io.KnownBytes.{Appends}
use Rattle.command_faults.specs.declared.faults.CommandFault.{CommandFault}
use Rattle.command_faults.specs.declared.faults.CommandFault.TheVariants as faults
use Rattle.damaged_files.specs.reached.Sizes.{disk_of}
use Rattle.disk_layout.specs.declared.faults.Fault.{Fault}
use Rattle.disk_pictures.specs.ComparedOutcomes.{IsComparisonFault, IsComparisonPrinted}
use Rattle.disk_pictures.specs.Missing.{IsMissing, missing_block}
use Rattle.image_looks.specs.Reports.{reported_end}
use Rattle.line_text.specs.Named.{named}
use Rattle.opened_files.specs.Ends.{JobEnd}

-- these lines say what isn't on the disks of two images, each after a name
pub record AreBothMissing (before after lines : List ℕ) : Type 0 where
  pub first_name : List ℕ
  pub first : List ℕ
  pub is_first : IsMissing before first
  pub second_name : List ℕ
  pub second : List ℕ
  pub is_second : IsMissing after second
  pub are : lines ≡ named first_name first ++ named second_name second

-- The disk of the second one was drawn beside the first one's, with the fault that a check reports of it, if it reports one, and then
-- these lines on a page.
pub record IsComparedWith {W : Type 0} (contents : W → Option (List ℕ)) (before_path before after_path after : List ℕ) (old new : W)
    (end : JobEnd) : Type 0 where
  pub found : Option Fault
  pub lines : List ℕ
  pub between : W
  pub disks : IsComparisonPrinted contents before_path (disk_of before) after_path (disk_of after) old between found
  pub missing : AreBothMissing before after lines
  pub told : Appends (contents between) (contents new) (missing_block lines)
  pub ended : end ≡ reported_end found lines

-- that, or why it wasn't, and unless the output failed nothing was printed
abbrev pub IsComparingRun : {W : Type 0} → (W → Option (List ℕ)) → (before_path before after_path after : List ℕ) → W → W
    → JobEnd → Type 0
IsComparingRun contents before_path before after_path after old new end =
    IsComparedWith contents before_path before after_path after old new end
    ⊎ ((fault : CommandFault) × (end ≡ Err fault) × IsComparisonFault (disk_of before) (disk_of after) fault
    × (fault ≢ faults.File → new ≡ old))
