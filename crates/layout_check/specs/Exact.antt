-- What a check requires of a relative entry beyond what a survey requires. Our own.
use Rattle.std.specs.Prelude.{
  ℕ,
  ◌≡◌,
  ◌≢◌,
  ◌+◌,
  ◌<◌,
  ◌∷◌,
  ◌++◌,
  [],
  Contains,
  Err,
  IsTrue,
  List,
  None,
  Option,
  Some,
  length,
  slice_get,
}
use Rattle.std.specs.List.{AllByRecursion}
use Rattle.d64_image.specs.History.{History, OnlyReads}
use Rattle.d64_image.specs.Images.{Image, sector}
use Rattle.d64_image.specs.declared.place.Place.{Place}
use Rattle.disk_layout.specs.Clean.{IsExactFile}
use Rattle.disk_layout.specs.Directory.{map_place}
use Rattle.disk_layout.specs.Fault.{HoldsOfClean, TellsFault}
use Rattle.disk_layout.specs.Layout.{File, IsLayout, Layout, count_field, is_rel, owners, record_length, sides_for}
use Rattle.disk_layout.specs.Map.{IsMapOf}
use Rattle.disk_layout.specs.Side.{side_sector}
use Rattle.disk_layout.specs.declared.faults.Fault.{Fault}
use Rattle.disk_layout.specs.declared.faults.Fault.TheVariants.{BadSide, CountWrong}
use Rattle.disk_layout.specs.declared.slot.Slot.{Slot}

-- a call that makes at most n reads and no write, and returns why the image isn't clean: a fault that holds of it.
-- Device is returned only if the device failed
pub record TellsUnclean {D : Type 0} (S : History D) (old new : D) (n : ℕ) (fault : Fault) : Type 0 where
  pub reads : OnlyReads S old new n
  pub failures : TellsFault {T = ℕ} S old new (Err fault)
  pub holds : HoldsOfClean (S.failed_at new) (S.image old) fault

-- the slot is that of a file of the image
pub record IsFiled (img : Image) (s : Slot) : Type 0 where
  pub layout : Layout
  pub sound : IsLayout img layout
  pub file : File
  pub own : Contains layout.files file
  pub slot : file.slot ≡ s

-- the bytes of side sector j of the entry are exact
abbrev pub IsExactSide : Image → Slot → List Place → List Place → ℕ → Place → Type 0
IsExactSide img s blocks sides j p = sector img p ≡ side_sector j blocks sides (record_length s)

-- each side sector's bytes are
abbrev pub AreExactSides : Image → Slot → List Place → List Place → Type 0
AreExactSides img s blocks sides = (j : ℕ) (p : Place) → slice_get sides j ≡ Some p → IsExactSide img s blocks sides j p

-- the sector is the first side sector of the entry whose bytes aren't exact
pub record IsFirstInexact (img : Image) (s : Slot) (blocks sides : List Place) (place : Place) : Type 0 where
  pub number : ℕ
  pub there : slice_get sides number ≡ Some place
  pub other : ¬ (IsExactSide img s blocks sides number place)
  pub first : (k : ℕ) (p : Place) → k < number → slice_get sides k ≡ Some p → IsExactSide img s blocks sides k p

-- what is reported of these side sectors: the first whose bytes aren't exact, or None if all are exact
abbrev pub ToldOfSides : Image → Slot → List Place → List Place → Option Place → Type 0
ToldOfSides img s blocks sides (Some p) = IsFirstInexact img s blocks sides p
ToldOfSides img s blocks sides None = AreExactSides img s blocks sides

-- what is reported of a relative entry: the side sector that isn't exact; otherwise a wrong count, if the count isn't
-- the number of sectors owned; otherwise None
abbrev pub ToldOfEntry : Slot → Option Place → ℕ → Option Fault → Type 0
ToldOfEntry s (Some p) owned told = told ≡ Some (BadSide p)
ToldOfEntry s None owned (Some fault) = (fault ≡ CountWrong s.sector) × (count_field s ≢ owned)
ToldOfEntry s None owned None = count_field s ≡ owned

-- the file is relative, and isn't exact as the fault says: in a side sector, or in the block count
abbrev pub IsInexactFile : Image → File → Fault → Type 0
IsInexactFile img f (BadSide p) = IsTrue (is_rel f.slot) × IsFirstInexact img f.slot f.blocks f.sides p
IsInexactFile img f (CountWrong p) = IsTrue (is_rel f.slot) × (p ≡ f.slot.sector)
    × (count_field f.slot ≢ length f.blocks + sides_for (length f.blocks))
IsInexactFile img f _ = ⊥

-- the file is exact, if it is relative
abbrev pub IsCleanFile : Image → File → Type 0
IsCleanFile img f = IsTrue (is_rel f.slot) → IsExactFile img f

-- what is reported of a file: the fault by which it isn't exact, or None if it is
abbrev pub ToldOfFile : Image → File → Option Fault → Type 0
ToldOfFile img f (Some fault) = IsInexactFile img f fault
ToldOfFile img f None = IsCleanFile img f

-- the first of these files that isn't exact, as the fault says
pub record IsFirstInexactFile (img : Image) (fs : List File) (fault : Fault) : Type 0 where
  pub before : List File
  pub file : File
  pub after : List File
  pub split : fs ≡ before ++ file ∷ after
  pub exact : AllByRecursion (IsCleanFile img) before
  pub told : IsInexactFile img file fault

-- what is reported of these files: the fault of the first that isn't exact, or None if all are exact
abbrev pub ToldOfFiles : Image → List File → Option Fault → Type 0
ToldOfFiles img fs (Some fault) = IsFirstInexactFile img fs fault
ToldOfFiles img fs None = AllByRecursion (IsCleanFile img) fs

-- the map is that of the owned sectors and the strays
abbrev pub HasMapBut : List Place → Image → Type 0
HasMapBut strays img = (l : Layout) → IsLayout img l → IsMapOf (sector img map_place) (strays ++ map_place ∷ owners l)

-- the map is that of the owned sectors
abbrev pub HasMap : Image → Type 0
HasMap img = HasMapBut [] img
