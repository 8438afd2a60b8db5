-- What comes of renaming a file of an image. Our own.
use Rattle.std.specs.Prelude.{◌≡◌, List, codes, ℕ}
use Rattle.command_faults.specs.declared.faults.CommandFault.TheVariants as faults
use Rattle.d64_image.specs.Memory.{disk_image, sectors_in}
use Rattle.disk_changes.specs.Judged.{IsNoName, IsSoundBut, IsSoundDisk}
use Rattle.command_faults.specs.Faults.{IsSoundFault}
use Rattle.disk_changes.specs.declared.changes.Changed.{Changed}
use Rattle.command_faults.specs.declared.faults.CommandFault.{CommandFault}
use Rattle.disk_layout.specs.Rest.{slot_name}
use Rattle.file_changes.specs.Entries.{IsFreeName, entries_of}
use Rattle.file_changes.specs.Renames.{HasNewName}
use Rattle.disk_changes.specs.ShopFiles.{HasShopFile}

-- The entry has its new name on the disk that comes of it; and what is printed.
pub record IsRenamed (image from to : List ℕ) (made : Changed) : Type 0 where
  pub before : IsSoundDisk image
  pub other : ¬ (HasShopFile image from)
  pub after : HasNewName (sectors_in image) before.layout from to (disk_image made.disk)
  pub text : made.text.items ≡ codes "RENAMED\n"

-- why an entry isn't renamed
abbrev pub IsRenameRefusal : (image from to : List ℕ) → CommandFault → Type 0
IsRenameRefusal image from to faults.ShopFile = IsSoundDisk image × HasShopFile image from
IsRenameRefusal image from to faults.NoFile = IsSoundBut image (λ l. IsNoName l from)
IsRenameRefusal image from to faults.FileExists = IsSoundBut image (λ l.
    ¬ (IsFreeName (entries_of l) (slot_name from)) × ¬ (IsFreeName (entries_of l) (slot_name to)))
IsRenameRefusal image from to why = IsSoundFault image why
