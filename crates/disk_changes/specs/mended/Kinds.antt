-- Which disks are no 1541 disk with nothing but files, by 18/0. For GEOS: the disk's signature, in its own ASCII, after
-- the directory header. For the 1541: its format byte (Inside Commodore DOS).
use Rattle.std.specs.Prelude.{◌≡◌, ◌⊎◌, codes, slice_index, slice_range}
use Rattle.d64_image.specs.Images.{Image, Sector, sector}
use Rattle.d64_image.specs.declared.place.Place.{Place}
use Rattle.damaged_files.specs.cut.Geos.{HasGeosEntry}
use Rattle.disk_layout.specs.Directory.{map_place}
use Rattle.command_faults.specs.declared.faults.CommandFault.{CommandFault}
use Rattle.command_faults.specs.declared.faults.CommandFault.TheVariants as faults

-- GEOS wrote its signature from byte 173 on: GEOS format V1.0, or another version
abbrev pub HasGeosSign : Sector → Type 0
HasGeosSign bytes = slice_range bytes 173 186 ≡ codes "GEOS format V"

-- byte 2 is the format byte of the 1541, an A
abbrev pub HasFormatByte : Sector → Type 0
HasFormatByte bytes = slice_index bytes 2 ≡ 65

-- a disk of the 1541 that isn't one of GEOS
pub record IsPlainDisk (bytes : Sector) : Type 0 where
  pub geos : ¬ (HasGeosSign bytes)
  pub format : HasFormatByte bytes

-- why a disk with this 18/0 is none
abbrev pub IsKindFault : Sector → CommandFault → Type 0
IsKindFault bytes faults.Geos = HasGeosSign bytes
IsKindFault bytes faults.Format = ¬ (HasFormatByte bytes)
IsKindFault bytes _ = ⊥

-- the disk is one of GEOS by its signature, or has a file of GEOS
abbrev pub IsGeosDisk : Image → Type 0
IsGeosDisk img = HasGeosSign (sector img map_place) ⊎ HasGeosEntry img

-- why a disk isn't changed of which a file is cut short at p: GEOS comes first
abbrev pub IsCutRefusal : Image → Place → CommandFault → Type 0
IsCutRefusal img p faults.Geos = IsGeosDisk img
IsCutRefusal img p (faults.Short q) = (q ≡ p) × ¬ (IsGeosDisk img)
IsCutRefusal img p _ = ⊥
