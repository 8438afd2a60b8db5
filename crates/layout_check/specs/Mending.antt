-- What each call that mends a sound disk promises. Our own.
use Rattle.std.specs.Prelude.{ℕ, ◌≡◌, ◌≤◌, ◌+◌, ◌*◌, [], ◌∷◌, Contains, List, OnOk, Result, length}
use Rattle.d64_image.specs.History.{Changes, History, WritesNothing}
use Rattle.d64_image.specs.Images.{Image, Sector, sector}
use Rattle.d64_image.specs.declared.place.Place.{Place}
use Rattle.disk_layout.specs.Directory.{map_place}
use Rattle.disk_layout.specs.InOrder.{AreMade, GoesOver}
use Rattle.disk_layout.specs.Layout.{File, IsLayout, Layout, file_owns}
use Rattle.disk_layout.specs.declared.faults.Fault.{Fault}
use Rattle.disk_layout.specs.declared.slot.Slot.{Slot}
use Rattle.layout_check.specs.Exact.{HasMapBut}
use Rattle.layout_check.specs.Mended.{KeepsLayouts, Mends, TellsDevice}
use Rattle.layout_check.specs.Recounted.{AreCounted, KeepsButCounts, OldOrRecounted}
use Rattle.layout_check.specs.Reads.{ReadsFew, owned_by}
use Rattle.layout_check.specs.RepairOrder.{ClearsSpare, IsOnlyRight, IsRight, IsRightBut, sides_of}

-- at most n sectors are written, and each image held is mended from the old one; at Ok the layout is the same
pub record MendsDisk {D T : Type 0} (S : History D) (old new : D) (n : ℕ)
    (result : Result T Fault) : Type 0 where
  pub layouts : OnOk result (KeepsLayouts (S.image old) (S.image new))
  pub mends : Mends S old new n
  pub failures : TellsDevice S old new result

-- the call visits these sectors of an image of this layout in order, and writes each at most once and only if it isn't
-- right, even if the device fails; at Ok all of them are right, and nothing else changed
pub record PutsRightBut {D T : Type 0} (strays : List Place) (S : History D) (old new : D) (l : Layout)
    (ps : List Place) (result : Result T Fault) : Type 0 where
  pub over : GoesOver S old new (IsRightBut strays l) ps
  pub made : OnOk result (AreMade (IsRightBut strays l) ps (S.image old) (S.image new))

-- with no strays
abbrev pub PutsRight : {D T : Type 0} → History D → D → D → Layout → List Place → Result T Fault → Type 0
PutsRight S old new l ps result = PutsRightBut [] S old new l ps result

-- the map was made right, with these strays
pub record MendsMap {D T : Type 0} (strays : List Place) (S : History D) (old new : D)
    (result : Result T Fault) : Type 0 where
  pub map : OnOk result (HasMapBut strays (S.image new))
  pub mending : MendsDisk S old new 1 result
  pub right : (l : Layout) → IsLayout (S.image old) l → PutsRightBut strays S old new l (map_place ∷ []) result
  -- in a map that is written, the bits past the tracks' last sectors are 0
  pub spare : ClearsSpare (S.image old) (S.image new)
  -- a map that is right is not written
  pub quiet : HasMapBut strays (S.image old) → WritesNothing S old new
  pub reads : S.reads new ≤ S.reads old + 1

-- the call puts these sectors right, makes no more writes than these, and none if all of them are right
pub record MakesRight {D T : Type 0} (S : History D) (old new : D) (l : Layout) (ps : List Place)
    (result : Result T Fault) : Type 0 where
  pub puts : PutsRight S old new l ps result
  pub quiet : ((p : Place) → Contains ps p → IsRight l p (sector (S.image old) p)) → WritesNothing S old new
  pub writes : S.writes new ≤ S.writes old + length ps

-- one sector, if it is right with these bytes alone
pub record MakesSide {D T : Type 0} (S : History D) (old new : D) (p : Place) (bytes : Sector)
    (result : Result T Fault) : Type 0 where
  pub right : (l : Layout) → IsOnlyRight l p bytes → MakesRight S old new l (p ∷ []) result
  pub failures : TellsDevice S old new result
  pub reads : S.reads new ≤ S.reads old + 1

-- the side sectors of a relative entry were made right, one by one
pub record MendsSides {D T : Type 0} (S : History D) (old new : D) (sides : List Place)
    (result : Result T Fault) : Type 0 where
  pub right : (l : Layout) → IsLayout (S.image old) l → MakesRight S old new l sides result
  pub failures : TellsDevice S old new result
  pub reads : S.reads new ≤ S.reads old + length sides

-- those of a relative entry's file
pub record MendsEntry {D T : Type 0} (S : History D) (old new : D) (s : Slot) (result : Result T Fault) : Type 0 where
  pub right : (l : Layout) (f : File) → IsLayout (S.image old) l → Contains l.files f → f.slot ≡ s
      → MakesRight S old new l f.sides result
  pub failures : TellsDevice S old new result
  -- a side sector is read three times, a data block once
  pub reads : (l : Layout) (f : File) → IsLayout (S.image old) l → Contains l.files f → f.slot ≡ s
      → ReadsFew S old new (3 * length (file_owns f)) result

-- those of all files, in the order of the directory
pub record MendsEntries {D T : Type 0} (S : History D) (old new : D) (result : Result T Fault) : Type 0 where
  pub right : (l : Layout) → IsLayout (S.image old) l → MakesRight S old new l (sides_of l.files) result
  pub failures : TellsDevice S old new result
  -- the directory, and each entry
  pub reads : (l : Layout) → IsLayout (S.image old) l → ReadsFew S old new (18 + 3 * owned_by l.files) result

-- the block counts in the sector at p, which is one of this image's directory, were made right
pub record MendsSector {D T : Type 0} (S : History D) (old new : D) (img : Image) (p : Place)
    (result : Result T Fault) : Type 0 where
  pub right : (l : Layout) → IsLayout img l → MakesRight S old new l (p ∷ []) result
  -- each image held is the old one, or has other counts in this sector
  pub moments : Changes S old new 1 (OldOrRecounted (S.image old) p)
  pub failures : TellsDevice S old new result
  pub reads : S.reads new ≤ S.reads old + 1

-- all block counts were made right
pub record MendsCounts {D T : Type 0} (S : History D) (old new : D) (result : Result T Fault) : Type 0 where
  pub counted : OnOk result (AreCounted (S.image new))
  -- every image held, the last one too, has the same files
  pub moments : Changes S old new 18 (KeepsButCounts (S.image old))
  -- in the order of the directory
  pub right : (l : Layout) → IsLayout (S.image old) l → MakesRight S old new l l.directory result
  pub failures : TellsDevice S old new result
  -- each sector of the directory twice
  pub reads : (l : Layout) → IsLayout (S.image old) l → ReadsFew S old new (2 * length l.directory) result
