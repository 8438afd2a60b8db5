-- What comes of repairing the disk of an image. Our own.
use Rattle.std.specs.Prelude.{◌≡◌, ◌≢◌, ◌⊎◌, Bool, List, None, Some, false, length, true, ℕ}
use Rattle.command_faults.specs.declared.faults.CommandFault.TheVariants as faults
use Rattle.d64_image.specs.Images.{Image, sector}
use Rattle.d64_image.specs.Memory.{disk_image, sectors_in}
use Rattle.damaged_files.specs.cut.Geos.{HasGeosEntry}
use Rattle.damaged_files.specs.cut.Settled.{IsSettled}
use Rattle.damaged_files.specs.cut.Told.{IsShortfallOf}
use Rattle.damaged_files.specs.declared.cut.shortfalls.Shortfall.{Shortfall}
use Rattle.damaged_files.specs.declared.cut.shortfalls.Shortfall.TheVariants as lacks
use Rattle.damaged_files.specs.declared.sides.planning.Loss.{Loss}
use Rattle.damaged_files.specs.declared.sides.planning.Loss.TheVariants.{Accepted, Refused}
use Rattle.disk_changes.specs.Judged.{IsTaken, IsUntaken}
use Rattle.disk_changes.specs.declared.changes.Changed.{Changed}
use Rattle.disk_changes.specs.declared.changes.Unowned.{Unowned}
use Rattle.disk_changes.specs.declared.changes.Unowned.TheVariants.{Freed, Kept}
use Rattle.command_faults.specs.declared.faults.CommandFault.{CommandFault}
use Rattle.disk_layout.specs.Directory.{map_place}
use Rattle.disk_layout.specs.Fault.{Holds, nowhere}
use Rattle.disk_changes.specs.mended.Kinds.{HasFormatByte, HasGeosSign, IsPlainDisk}
use Rattle.disk_changes.specs.mended.Repairs.{IsMendedAs, mended_text}
use Rattle.layout_check.specs.RepairOrder.{ClearsSpare}

-- the sectors that are taken and no file's become free
abbrev pub frees : Unowned → Bool
frees Kept = false
frees Freed = true

-- The disk that comes of it is clean, except for what is left, and has the files, whether or not one is cut short; and what is
-- printed.
pub record IsMended (image : List ℕ) (free : Bool) (made : Changed) : Type 0 where
  pub size : length image ≡ 174848
  pub plain : IsPlainDisk (sector (sectors_in image) map_place)
  pub mended : IsMendedAs free (sectors_in image) (disk_image made.disk) made.left
  pub spare : ClearsSpare (sectors_in image) (disk_image made.disk)
  pub text : made.text.items ≡ mended_text (sectors_in image) (disk_image made.disk) made.left

-- The disk that comes of it is that, once what its files lost is settled: none of them is cut short any more, and none has fewer
-- blocks than its entry says. What was settled and what was mended is printed.
pub record IsSettledAndMended (image : List ℕ) (free : Bool) (made : Changed) : Type 0 where
  pub size : length image ≡ 174848
  pub plain : IsPlainDisk (sector (sectors_in image) map_place)
  pub bytes : List ℕ
  pub settled : IsSettled (sectors_in image) (sectors_in bytes)
  pub second : Changed
  pub mended : IsMended bytes free second
  pub disk : disk_image made.disk ≡ disk_image second.disk
  pub left : made.left ≡ second.left
  pub whole : IsShortfallOf (disk_image made.disk) None
  pub text : made.text.items ≡ mended_text (sectors_in image) (disk_image made.disk) made.left

-- sectors that no file owns may hold a document of GEOS, whose entry is there: they are to become free
abbrev pub FreesGeos : (image : List ℕ) → (free : Bool) → Type 0
FreesGeos image free = (free ≡ true) × HasGeosEntry (sectors_in image)

-- The disk was repaired. If no loss is accepted, no file of it was cut short, and nothing of GEOS became free; otherwise what its
-- files lost is settled.
abbrev pub IsRepaired : (image : List ℕ) → (free : Bool) → Loss → Changed → Type 0
IsRepaired image free Refused made = IsTaken image Refused × ¬ (FreesGeos image free) × IsMended image free made
IsRepaired image free Accepted made = IsSettledAndMended image free made

-- why a disk isn't mended, whether or not a file is cut short
abbrev pub IsMendRefusal : (image : List ℕ) → CommandFault → Type 0
IsMendRefusal image faults.ImageSize = length image ≢ 174848
IsMendRefusal image faults.NoMemory = length image ≡ 174848
IsMendRefusal image faults.Geos =
    (length image ≡ 174848) × HasGeosSign (sector (sectors_in image) map_place)
IsMendRefusal image faults.Format =
    (length image ≡ 174848) × ¬ (HasFormatByte (sector (sectors_in image) map_place))
IsMendRefusal image (faults.Layout fault) =
    (length image ≡ 174848) × Holds nowhere (sectors_in image) fault
IsMendRefusal image why = ⊥

-- a file of the disk still lacks something there
abbrev pub Lacks : Image → CommandFault → Type 0
Lacks img (faults.Short p) = IsShortfallOf img (Some (lacks.Short p)) ⊎ IsShortfallOf img (Some (lacks.Fewer p))
Lacks img why = ⊥

-- why a disk isn't repaired, once what its files lost is settled, which is judged: it isn't mended, or a file still lacks
-- something. No disk is known of which this holds
abbrev pub IsUnsettled : (image : List ℕ) → (free : Bool) → CommandFault → Type 0
IsUnsettled image free why = (bytes : List ℕ) × IsSettled (sectors_in image) (sectors_in bytes)
    × (IsMendRefusal bytes why ⊎ ((made : Changed) × IsMended bytes free made × Lacks (disk_image made.disk) why))

-- why a disk isn't repaired
abbrev pub IsRepairRefusal : (image : List ℕ) → (free : Bool) → Loss → CommandFault → Type 0
IsRepairRefusal image free Refused why = IsMendRefusal image why
    ⊎ (IsUntaken image Refused why ⊎ ((why ≡ faults.Geos) × FreesGeos image free))
IsRepairRefusal image free Accepted why = IsMendRefusal image why ⊎ IsUnsettled image free why
