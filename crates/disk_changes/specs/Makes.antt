-- What comes of making a relative file in an image. Our own.
use Rattle.std.specs.Prelude.{◌≡◌, List, codes, ℕ}
use Rattle.command_faults.specs.declared.faults.CommandFault.TheVariants as faults
use Rattle.d64_image.specs.Memory.{disk_image, sectors_in}
use Rattle.damaged_files.specs.declared.sides.planning.Loss.{Loss}
use Rattle.disk_changes.specs.Judged.{IsUnusable, IsUsableBut, IsUsableDisk}
use Rattle.disk_changes.specs.declared.changes.Changed.{Changed}
use Rattle.command_faults.specs.declared.faults.CommandFault.{CommandFault}
use Rattle.rel_records.specs.creation.Made.{HasFileMore, HasNoRoom, IsTakenName}

-- The disk that comes of it has the files of the first one, and the new one with records of L bytes, and no other sector
-- that nobody owned became free or taken; and what is printed.
pub record IsMade (image name : List ℕ) (L : ℕ) (cut : Loss) (made : Changed) : Type 0 where
  pub before : IsUsableDisk image cut
  pub free : ¬ (IsTakenName before.layout name)
  pub room : ¬ (HasNoRoom (sectors_in image) before.layout)
  pub after : HasFileMore (sectors_in image) before.layout name L (disk_image made.disk)
  pub text : made.text.items ≡ codes "MADE\n"

-- why a file isn't made
abbrev pub IsMakeRefusal : (image name : List ℕ) → Loss → CommandFault → Type 0
IsMakeRefusal image name cut faults.FileExists = IsUsableBut image cut (λ l. IsTakenName l name)
IsMakeRefusal image name cut faults.DiskFull =
    IsUsableBut image cut (λ l. HasNoRoom (sectors_in image) l × ¬ (IsTakenName l name))
IsMakeRefusal image name cut why = IsUnusable image cut why
