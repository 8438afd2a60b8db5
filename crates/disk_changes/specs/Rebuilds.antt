-- What comes of building the side sectors of an image's disk anew, and repairing it then. Our own.
use Rattle.std.specs.Prelude.{◌≡◌, ◌≢◌, ◌⊎◌, ◌++◌, Bool, List, length, ℕ}
use Rattle.command_faults.specs.declared.faults.CommandFault.TheVariants as faults
use Rattle.d64_image.specs.Images.{Image, sector}
use Rattle.d64_image.specs.Memory.{disk_image, sectors_in}
use Rattle.d64_image.specs.declared.mem_disk.MemDisk.{MemDisk}
use Rattle.damaged_files.specs.declared.sides.planning.Loss.{Loss}
use Rattle.damaged_files.specs.sides.Named.{NamesSides}
use Rattle.damaged_files.specs.sides.Rebuilt as sides
use Rattle.disk_changes.specs.Repairs.{IsRepairRefusal, IsRepaired}
use Rattle.disk_changes.specs.declared.changes.Changed.{Changed}
use Rattle.command_faults.specs.declared.faults.CommandFault.{CommandFault}
use Rattle.disk_layout.specs.Directory.{map_place}
use Rattle.disk_layout.specs.Fault.{Holds, nowhere}
use Rattle.disk_changes.specs.mended.Kinds.{HasFormatByte, HasGeosSign, IsPlainDisk}
use Rattle.disk_changes.specs.mended.Repairs.{changed_text}

-- the disk of the image is one of the 1541, and this is it with its side sectors built anew
abbrev pub IsRebuiltOf : (image : List ℕ) → Image → Type 0
IsRebuiltOf image after = (length image ≡ 174848) × IsPlainDisk (sector (sectors_in image) map_place)
    × sides.IsRebuilt (sectors_in image) after

-- this disk is that, and the text got the lines of its sectors that changed
abbrev pub IsBuilt : (image : List ℕ) → (old new : List ℕ) → MemDisk → Type 0
IsBuilt image old new disk =
    IsRebuiltOf image (disk_image disk) × (new ≡ old ++ changed_text (sectors_in image) (disk_image disk))

-- Why they aren't built anew: this holds of the image's bytes, or there was no memory.
abbrev pub IsUnbuilt : (image : List ℕ) → CommandFault → Type 0
IsUnbuilt image faults.ImageSize = length image ≢ 174848
IsUnbuilt image faults.NoMemory = length image ≡ 174848
IsUnbuilt image faults.Geos = (length image ≡ 174848) × HasGeosSign (sector (sectors_in image) map_place)
IsUnbuilt image faults.Format =
    (length image ≡ 174848) × ¬ (HasFormatByte (sector (sectors_in image) map_place))
IsUnbuilt image (faults.Layout fault) = (length image ≡ 174848)
    × IsPlainDisk (sector (sectors_in image) map_place) × Holds nowhere (sectors_in image) fault
IsUnbuilt image why = ⊥

-- They were built anew, and the disk was repaired then, if no file of it is cut short or one may be. What both mended is
-- printed.
pub record IsBuiltAnew (image : List ℕ) (free : Bool) (cut : Loss) (made : Changed) : Type 0 where
  pub bytes : List ℕ
  pub built : IsRebuiltOf image (sectors_in bytes)
  pub second : Changed
  pub repaired : IsRepaired bytes free cut second
  pub disk : made.disk ≡ second.disk
  pub left : made.left ≡ second.left
  pub text : made.text.items ≡ changed_text (sectors_in image) (sectors_in bytes) ++ second.text.items

-- So they were once entries that named no side sector had a place for one. What that changed is printed first.
pub record IsNamedAndBuilt (image : List ℕ) (free : Bool) (cut : Loss) (made : Changed) : Type 0 where
  pub size : length image ≡ 174848
  pub bytes : List ℕ
  pub named : NamesSides (sectors_in image) (sectors_in bytes)
  pub second : Changed
  pub built : IsBuiltAnew bytes free cut second
  pub disk : made.disk ≡ second.disk
  pub left : made.left ≡ second.left
  pub text : made.text.items ≡ changed_text (sectors_in image) (sectors_in bytes) ++ second.text.items

-- one of the two
abbrev pub IsRebuilt : (image : List ℕ) → Bool → Loss → Changed → Type 0
IsRebuilt image free cut made = IsBuiltAnew image free cut made ⊎ IsNamedAndBuilt image free cut made

-- why not both were done
abbrev pub IsRebuildRefusal : (image : List ℕ) → (free : Bool) → Loss → CommandFault → Type 0
IsRebuildRefusal image free cut why = IsUnbuilt image why
    ⊎ ((bytes : List ℕ) × IsRebuiltOf image (sectors_in bytes) × IsRepairRefusal bytes free cut why)
