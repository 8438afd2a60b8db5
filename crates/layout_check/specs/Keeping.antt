-- Sectors that are taken in the map but owned by nobody, and a repair that leaves them taken. Our own.
use Rattle.std.specs.Prelude.{ℕ, ◌≡◌, ◌≢◌, ◌↔◌, ◌≤◌, ◌+◌, ◌*◌, ◌++◌, ◌∷◌, List, Contains, IfErr, IfOk, IsOk, IsTrue}
use Rattle.std.specs.Prelude.{OnOk, Result, length}
use Rattle.std.specs.List.{AllByRecursion}
use Rattle.d64_image.specs.History.{Changes, History, NeverFailed, OnlyReads, WritesNothing}
use Rattle.d64_image.specs.Images.{Image, Sector, sector}
use Rattle.d64_image.specs.declared.place.Place.{Place}
use Rattle.disk_layout.specs.Chain.{EachOnce}
use Rattle.disk_layout.specs.Clean.{IsExactFile}
use Rattle.disk_layout.specs.Directory.{map_place}
use Rattle.disk_layout.specs.Fault.{Holds, TellsFault}
use Rattle.disk_layout.specs.InOrder.{AreMade, GoesOver}
use Rattle.disk_layout.specs.Layout.{IsLayout, IsSound, Layout, is_rel, owners}
use Rattle.disk_layout.specs.Map.{IsFree, IsMapOf}
use Rattle.disk_layout.specs.Same.{SameFiles}
use Rattle.disk_layout.specs.Whole.{HoldsWhole}
use Rattle.disk_layout.specs.declared.faults.Fault.{Fault}
use Rattle.layout_check.specs.Mended.{TellsDevice}
use Rattle.layout_check.specs.Owners.{IsClaimed, NumbersFiles, owner_of}
use Rattle.layout_check.specs.Reads.{ReadsFew}
use Rattle.layout_check.specs.RepairOrder.{ClearsSpare, IsRightBut, repair_order}
use Rattle.layout_check.specs.Repaired.{MendsFrom}
use Rattle.layout_check.specs.declared.owners.Owners.{Owners}

-- the sector is taken in the map, but nobody owns it: a block that was written by direct access, or that a program
-- keeps in a way of its own, or that an interrupted growth took
pub record IsStray (img : Image) (l : Layout) (p : Place) : Type 0 where
  pub taken : ¬ (IsFree (sector img map_place) p)
  pub unowned : ¬ (Contains (map_place ∷ owners l) p)

-- these are the stray sectors of the image, each once
pub record AreStray (img : Image) (l : Layout) (strays : List Place) : Type 0 where
  pub once : EachOnce strays
  pub those : (p : Place) → Contains strays p ↔ IsStray img l p

-- the layout of an image that is clean except for these sectors, which are taken in the map though nobody owns them
pub record IsCleanBut (strays : List Place) (img : Image) (l : Layout) : Type 0 where
  pub layout : IsLayout img l
  pub files : AllByRecursion (λ f. IsTrue (is_rel f.slot) → IsExactFile img f) l.files
  pub map : IsMapOf (sector img map_place) (strays ++ map_place ∷ owners l)

-- a sector that is free in the new map was free in the old one: no bit goes from taken to free
abbrev pub FreesNothing : Image → Image → Type 0
FreesNothing old new = (p : Place) → IsFree (sector new map_place) p → IsFree (sector old map_place) p

-- the table has an owner for these sectors, for those that the layout's files own, and for no others
abbrev pub MarksTaken : Owners → Layout → List Place → Type 0
MarksTaken t l strays = (p : Place) → (owner_of t p ≢ 255) ↔ Contains (strays ++ map_place ∷ owners l) p

-- from the one table to the other these sectors got the number 253: those among the ones looked at that are taken in
-- the map and had no owner
pub record AreMarked (map : Sector) (old new : Owners) (Looked : Place → Type 0) (ps : List Place) : Type 0 where
  pub once : EachOnce ps
  pub those : (p : Place) → Contains ps p ↔ (Looked p × ¬ (IsFree map p) × (owner_of old p ≡ 255))
  pub table : IsClaimed old new 253 ps

-- a table of what a sound image owns, by numbers of the files, and of its n stray sectors
pub record IsTakenTable (img : Image) (t : Owners) (n : ℕ) : Type 0 where
  pub layout : Layout
  pub sound : IsLayout img layout
  pub strays : List Place
  pub are : AreStray img layout strays
  pub marks : MarksTaken t layout strays
  pub numbers : NumbersFiles t layout
  pub count : n ≡ length strays

-- the new image is clean except for these sectors, and has the files of the old one
pub record IsMendedBut (strays : List Place) (old new : Image) : Type 0 where
  pub before : Layout
  pub after : Layout
  pub sound : IsLayout old before
  pub clean : IsCleanBut strays new after
  pub same : SameFiles old new before after

-- The result of mending a sound disk: in its map the owned sectors and these are taken.
pub record MakesCleanBut {D T : Type 0} (strays : List Place) (S : History D) (old new : D)
    (result : Result T Fault) : Type 0 where
  pub clean : OnOk result (IsMendedBut strays (S.image old) (S.image new))
  pub moments : MendsFrom S old new 883
  pub order : (l : Layout) → IsLayout (S.image old) l → GoesOver S old new (IsRightBut strays l) (repair_order l)
  -- at Ok all of these are right, and every other sector is as it was
  pub made : (l : Layout) → IsLayout (S.image old) l
      → OnOk result (AreMade (IsRightBut strays l) (repair_order l) (S.image old) (S.image new))
  pub spare : ClearsSpare (S.image old) (S.image new)
  pub failures : TellsDevice S old new result
  -- a disk that is clean in this way isn't written
  pub quiet : (l : Layout) → IsCleanBut strays (S.image old) l → WritesNothing S old new
  pub reads : (l : Layout) → IsLayout (S.image old) l → ReadsFew S old new (19 + 3 * length (owners l)) result

-- the new image has the files of the old one, and its n stray sectors are taken in the map; except for these it is
-- clean
pub record IsRepairedKeeping (old new : Image) (n : ℕ) : Type 0 where
  pub before : Layout
  pub after : Layout
  pub sound : IsLayout old before
  pub strays : List Place
  pub are : AreStray old before strays
  pub count : n ≡ length strays
  pub clean : IsCleanBut strays new after
  pub same : SameFiles old new before after

-- The result of a repair that frees nothing: a sound disk is made clean except for its stray sectors, and any other is
-- left as it is.
pub record RepairsKeeping {D : Type 0} (S : History D) (old new : D) (result : Result ℕ Fault) : Type 0 where
  pub ok : IfOk result (IsRepairedKeeping (S.image old) (S.image new))
  pub err : IfErr result (Holds (S.failed_at new) (S.image old))
  -- if the device doesn't fail, the result is Ok exactly on a sound image
  pub sound : NeverFailed S old new → (IsOk result ↔ IsSound (S.image old))
  pub moments : MendsFrom S old new 883
  -- no image held has a sector free that wasn't
  pub frees : Changes S old new 883 (FreesNothing (S.image old))
  -- whole files are whole in each image held
  pub whole : HoldsWhole S old new
  -- no sector that is right is written, the others once, the map first, then the side sectors, then the directory
  pub order : (l : Layout) (strays : List Place) → IsLayout (S.image old) l → AreStray (S.image old) l strays
      → GoesOver S old new (IsRightBut strays l) (repair_order l)
  -- at Ok all of these are right, and every other sector is as it was
  pub made : (l : Layout) (strays : List Place) → IsLayout (S.image old) l → AreStray (S.image old) l strays
      → OnOk result (AreMade (IsRightBut strays l) (repair_order l) (S.image old) (S.image new))
  pub spare : ClearsSpare (S.image old) (S.image new)
  -- a disk that isn't sound is not written
  pub unsound : (IsSound (S.image old) → ⊥) → OnlyReads S old new 2114
  -- a disk that is clean except for its stray sectors isn't written
  pub quiet : (l : Layout) (strays : List Place) → AreStray (S.image old) l strays
      → IsCleanBut strays (S.image old) l → WritesNothing S old new
  pub failures : TellsFault S old new result
  -- on any disk, whatever the result
  pub reads : S.reads new ≤ S.reads old + 4180
  -- and at Ok at most five for each sector of the directory or a file
  pub few_reads : OnOk result ((l : Layout) → IsLayout (S.image old) l
      → S.reads new ≤ S.reads old + (38 + 5 * length (owners l)))
