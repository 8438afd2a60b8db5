-- What comes of putting a file into an image. Our own.
use Rattle.std.specs.Prelude.{◌≡◌, List, codes, length, ℕ}
use Rattle.command_faults.specs.declared.faults.CommandFault.TheVariants as faults
use Rattle.d64_image.specs.Memory.{disk_image, sectors_in}
use Rattle.damaged_files.specs.declared.sides.planning.Loss.{Loss}
use Rattle.disk_changes.specs.Judged.{IsUnusable, IsUsableBut, IsUsableDisk}
use Rattle.disk_changes.specs.declared.changes.Changed.{Changed}
use Rattle.command_faults.specs.declared.faults.CommandFault.{CommandFault}
use Rattle.file_changes.specs.Puts.{HasPut, IsNewName, sectors_for, stored}
use Rattle.file_changes.specs.declared.file_type.FileType.{FileType}
use Rattle.rel_records.specs.creation.Made.{HasNoRoomFor}

-- The file is there on the disk that comes of it, and no other sector that nobody owned became free or taken; and what
-- is printed.
pub record IsPut (image name : List ℕ) (kind : FileType) (content : List ℕ) (cut : Loss) (made : Changed) : Type 0 where
  pub before : IsUsableDisk image cut
  pub after : HasPut (sectors_in image) before.layout name kind (stored content) (disk_image made.disk)
  pub text : made.text.items ≡ codes "PUT\n"

-- why a file isn't put there
abbrev pub IsPutRefusal : (image name : List ℕ) → FileType → (content : List ℕ) → Loss → CommandFault → Type 0
IsPutRefusal image name kind content cut faults.FileExists = IsUsableBut image cut (λ l. ¬ (IsNewName l name))
IsPutRefusal image name kind content cut faults.DiskFull = IsUsableBut image cut (λ l.
    HasNoRoomFor (sectors_in image) l (sectors_for (length (stored content))) × IsNewName l name)
IsPutRefusal image name kind content cut why = IsUnusable image cut why
