-- What comes of the repair of a disk, and what is printed of it. Our own.
use Rattle.std.specs.Prelude.{◌≡◌, ◌≢◌, ◌⊎◌, ℕ, ◌++◌, Bool, true, false, ◌&&◌, not, List, [], Option}
use Rattle.std.specs.Prelude.{Result, Ok, Err, IfErr, IfOk, if◌then◌else◌, codes, decimal, flat_map, length, bytes_eq, nat_eq}
use Rattle.std.specs.Io.KnownBytes.{Appends}
use Rattle.d64_image.specs.History.{Changes, Failed, History, OnlyReads, WritesNothing}
use Rattle.d64_image.specs.Images.{Image, Sector, sector}
use Rattle.d64_image.specs.Places.{places}
use Rattle.d64_image.specs.declared.place.Place.{Place}
use Rattle.disk_layout.specs.Directory.{map_place}
use Rattle.disk_layout.specs.Fault.{Holds, TellsFault, nowhere}
use Rattle.disk_layout.specs.InOrder.{AreMade, GoesOver}
use Rattle.disk_layout.specs.Layout.{IsLayout, IsSound, Layout}
use Rattle.disk_layout.specs.Map.{map_bit}
use Rattle.disk_layout.specs.Same.{SameFiles}
use Rattle.disk_layout.specs.Texts.{place_text}
use Rattle.disk_layout.specs.Whole.{HoldsWhole}
use Rattle.disk_layout.specs.declared.faults.Fault.{Fault}
use Rattle.disk_layout.specs.declared.faults.Fault.TheVariants.{Device}
use Rattle.layout_check.specs.Keeping.{AreStray, FreesNothing, IsCleanBut}
use Rattle.layout_check.specs.RepairOrder.{ClearsSpare, IsRightBut, repair_order}
use Rattle.layout_check.specs.Repaired.{MendsFrom}
use Rattle.disk_changes.specs.mended.Kinds.{HasFormatByte, HasGeosSign, IsPlainDisk}
use Rattle.command_faults.specs.Outputs.{HandsPart}
use Rattle.command_faults.specs.declared.faults.CommandFault.{CommandFault}
use Rattle.command_faults.specs.declared.faults.CommandFault.TheVariants as faults

-- the one map calls the sector taken, and the other free
abbrev pub is_freed : Sector → Sector → Place → Bool
is_freed had has p = not (nat_eq (map_bit had p.track p.sector) 1) && nat_eq (map_bit has p.track p.sector) 1

-- the line of a sector that became free: FREED 2/5
abbrev pub freed_at : Sector → Sector → Place → List ℕ
freed_at had has p = if is_freed had has p then codes "FREED " ++ place_text p ++ codes "\n" else []

-- the line of a sector that the two images have otherwise, MENDED 18/0, or that became free by these two maps
abbrev pub mended_at : Image → Image → Sector → Sector → Place → List ℕ
mended_at old new had has p = if bytes_eq (sector old p) (sector new p) then freed_at had has p
    else codes "MENDED " ++ place_text p ++ codes "\n"

-- how it ends: OK, or KEPT 3 if so many sectors stay taken that nobody owns
abbrev pub kept_text : ℕ → List ℕ
kept_text n = if nat_eq n 0 then codes "OK\n" else codes "KEPT " ++ decimal n ++ codes "\n"

-- a line for each sector that the two images have otherwise, or that became free by their maps, by track and sector
unfoldable pub changed_text : Image → Image → List ℕ
changed_text old new = flat_map (mended_at old new (sector old map_place) (sector new map_place)) places

-- what is printed of a repair: these lines, and then how it ends
unfoldable pub mended_text : Image → Image → ℕ → List ℕ
mended_text old new n = changed_text old new ++ kept_text n

-- only the output is reported as File, and only a failure of the device as Device
abbrev pub TellsKeep : {D T : Type 0} → History D → D → D → Result T CommandFault → Type 0
TellsKeep S old new (Ok _) = S.failures new ≡ S.failures old
TellsKeep S old new (Err faults.File) = S.failures new ≡ S.failures old
TellsKeep S old new (Err faults.Device) = Failed S old new
TellsKeep S old new (Err _) = ⊥

-- what is reported if a repair ends with this fault
abbrev pub repair_fault : Fault → CommandFault
repair_fault (Device p) = faults.Device
repair_fault fault = faults.Layout fault

-- the sectors that stay taken though nobody owns them: none if these are freed, and otherwise all that there are
abbrev pub AreLeft : (free : Bool) → Image → Layout → List Place → Type 0
AreLeft true img l strays = strays ≡ []
AreLeft false img l strays = AreStray img l strays

-- no image held calls a sector free that wasn't, if none is to be freed
abbrev pub FreesAsAsked : {D : Type 0} → (free : Bool) → History D → D → D → Type 0
FreesAsAsked free S old new = free ≡ false → Changes S old new 883 (FreesNothing (S.image old))

-- the new image has the files of the old one; it is clean except for the n sectors that are left
pub record IsMendedAs (free : Bool) (old new : Image) (n : ℕ) : Type 0 where
  pub before : Layout
  pub after : Layout
  pub sound : IsLayout old before
  pub strays : List Place
  pub are : AreLeft free old before strays
  pub count : n ≡ length strays
  pub clean : IsCleanBut strays new after
  pub same : SameFiles old new before after
  -- each sector of a repair is right, and all others, also those that were right, are as they were
  pub made : AreMade (IsRightBut strays before) (repair_order before) old new

-- no right sector is written, the others once at most, in the order of a repair
abbrev pub GoesInOrder : {D : Type 0} → (free : Bool) → History D → D → D → Type 0
GoesInOrder free S old new = (l : Layout) (strays : List Place) → IsLayout (S.image old) l
    → AreLeft free (S.image old) l strays → GoesOver S old new (IsRightBut strays l) (repair_order l)

-- What comes of mending a disk, its unowned sectors freed or left.
pub record MendsAs {D : Type 0} (free : Bool) (S : History D) (old new : D) (result : Result ℕ Fault) : Type 0 where
  pub ok : IfOk result (IsMendedAs free (S.image old) (S.image new))
  pub err : IfErr result (Holds (S.failed_at new) (S.image old))
  pub moments : MendsFrom S old new 883
  pub frees : FreesAsAsked free S old new
  pub whole : HoldsWhole S old new
  pub order : GoesInOrder free S old new
  pub spare : ClearsSpare (S.image old) (S.image new)
  pub unsound : (IsSound (S.image old) → ⊥) → OnlyReads S old new 2114
  pub failures : TellsFault S old new result

-- Whatever the disk held on the way is sound and has the files of the first image. No right sector was written, and the
-- others were written once at most, in the order of a repair. No sector became free that wasn't to. A disk that isn't
-- sound was left as it is.
pub record IsRepairRun {D : Type 0} (free : Bool) (S : History D) (image : List ℕ) (old new : D) : Type 0 where
  pub size : length image ≡ 174848
  pub plain : IsPlainDisk (sector (S.image old) map_place)
  pub moments : MendsFrom S old new 883
  pub frees : FreesAsAsked free S old new
  -- files that are whole are so in each image held
  pub whole : HoldsWhole S old new
  pub order : GoesInOrder free S old new
  pub unsound : ¬ (IsSound (S.image old)) → Changes S old new 0 (λ c. c ≡ S.image old)

-- And the disk is clean except for the n sectors that are left, with its files.
pub record IsMendedDisk {D : Type 0} (free : Bool) (S : History D) (image : List ℕ) (old new : D) (n : ℕ) : Type 0 where
  pub run : IsRepairRun free S image old new
  pub mended : IsMendedAs free (S.image old) (S.image new) n
  pub spare : ClearsSpare (S.image old) (S.image new)

-- the disk was repaired, and what was mended and what is left was printed
pub record IsRepairDone {D W : Type 0} (free : Bool) (S : History D) (contents : W → Option (List ℕ)) (image : List ℕ)
    (old new : D) (before after : W) (n : ℕ) : Type 0 where
  pub mended : IsMendedDisk free S image old new n
  pub printed : Appends (contents before) (contents after) (mended_text (S.image old) (S.image new) n)

-- why a disk isn't repaired, or that isn't printed. At a refusal something was printed only if the output or the device
-- failed
abbrev pub IsRepairFault : {D W : Type 0} → Bool → History D → List ℕ → D → D → W → W → CommandFault → Type 0
IsRepairFault free S image old new before after faults.ImageSize =
    (length image ≢ 174848) × (new ≡ old) × (after ≡ before)
IsRepairFault free S image old new before after faults.NoMemory =
    (length image ≡ 174848) × (new ≡ old) × (after ≡ before)
IsRepairFault free S image old new before after faults.Geos =
    (length image ≡ 174848) × HasGeosSign (sector (S.image old) map_place) × (new ≡ old) × (after ≡ before)
IsRepairFault free S image old new before after faults.Format =
    (length image ≡ 174848) × ¬ (HasFormatByte (sector (S.image old) map_place)) × (new ≡ old) × (after ≡ before)
IsRepairFault free S image old new before after (faults.Layout fault) =
    (length image ≡ 174848) × IsPlainDisk (sector (S.image old) map_place) × Holds nowhere (S.image old) fault
    × WritesNothing S old new × (after ≡ before)
-- the output failed: the disk is mended
IsRepairFault free S image old new before after faults.File = (n : ℕ) × IsMendedDisk free S image old new n
IsRepairFault free S image old new before after faults.Device = IsRepairRun free S image old new × Failed S old new
IsRepairFault free S image old new before after _ = ⊥

-- What was printed of a repair that isn't done, or not printed to its end: nothing, or a beginning of what is printed of the
-- disk as it is mended.
abbrev pub IsRepairPart : {D W : Type 0} → Bool → History D → (W → Option (List ℕ)) → List ℕ → D → D → W → W → Type 0
IsRepairPart free S contents image old new before after = (after ≡ before)
    ⊎ ((n : ℕ) × IsMendedDisk free S image old new n
    × HandsPart (contents before) (contents after) (mended_text (S.image old) (S.image new) n))
