-- What comes of deleting a file of an image. Our own.
use Rattle.std.specs.Prelude.{◌≡◌, ◌⊎◌, List, codes, ℕ}
use Rattle.command_faults.specs.Faults.{IsLoadFault}
use Rattle.command_faults.specs.declared.faults.CommandFault.TheVariants as faults
use Rattle.d64_image.specs.Memory.{disk_image, sectors_in}
use Rattle.damaged_files.specs.declared.sides.planning.Loss.{Loss}
use Rattle.disk_changes.specs.Judged.{IsAcceptedFor, IsNoName, IsUnusable, IsUsableBut, IsUsableDisk}
use Rattle.disk_changes.specs.declared.changes.Changed.{Changed}
use Rattle.command_faults.specs.declared.faults.CommandFault.{CommandFault}
use Rattle.disk_layout.specs.Layout.{Layout}
use Rattle.disk_layout.specs.Rest.{slot_name}
use Rattle.disk_layout.specs.declared.slot.Slot.{Slot}
use Rattle.file_changes.specs.Deletes.{HasFreed, IsLocked}
use Rattle.file_changes.specs.Entries.{IsFirstNamed, entries_of}
use Rattle.disk_changes.specs.ShopFiles.{HasShopFile}

-- the first entry of that name is locked
abbrev pub IsLockedName : Layout → List ℕ → Type 0
IsLockedName l name = (n : ℕ) × (s : Slot) × IsFirstNamed (entries_of l) (slot_name name) n s × IsLocked s

-- The file is gone from the disk that comes of it, and its sectors, and no others, became free; and what is printed. If this
-- file is cut short, that needn't be accepted.
pub record IsDeleted (image name : List ℕ) (cut : Loss) (made : Changed) : Type 0 where
  pub used : Loss
  pub accepted : IsAcceptedFor image name cut used
  pub before : IsUsableDisk image used
  pub other : ¬ (HasShopFile image name)
  pub after : HasFreed (sectors_in image) before.layout name (disk_image made.disk)
  pub text : made.text.items ≡ codes "DELETED\n"

-- why a file isn't deleted, if this loss is accepted
abbrev pub IsUndeletedFor : (image name : List ℕ) → Loss → CommandFault → Type 0
IsUndeletedFor image name used faults.ShopFile = IsUsableDisk image used × HasShopFile image name
IsUndeletedFor image name used faults.NoFile = IsUsableBut image used (λ l. IsNoName l name)
IsUndeletedFor image name used faults.Locked = IsUsableBut image used (λ l. IsLockedName l name)
IsUndeletedFor image name used why = IsUnusable image used why

-- why a file isn't deleted
abbrev pub IsDeleteRefusal : (image name : List ℕ) → Loss → CommandFault → Type 0
IsDeleteRefusal image name cut why = IsLoadFault image why
    ⊎ ((used : Loss) × IsAcceptedFor image name cut used × IsUndeletedFor image name used why)
