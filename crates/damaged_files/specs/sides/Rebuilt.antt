-- A disk whose side sectors are built anew from the chains of its relative files. Our own.
use Rattle.std.specs.Prelude.{◌≡◌, ◌≢◌, ◌≤◌, ◌⊎◌, ◌∷◌, Contains, Err, IsFalse, IsTrue, List, Ok, OnOk, Result, Some}
use Rattle.std.specs.Prelude.{flat_map, length, map, slice_get, slice_index}
use Rattle.std.specs.List.{AllByRecursion}
use Rattle.d64_image.specs.History.{Failed, HeldOnly, History}
use Rattle.d64_image.specs.Images.{Image, sector}
use Rattle.d64_image.specs.declared.place.Place.{Place}
use Rattle.disk_layout.specs.Chain.{EachOnce, Names}
use Rattle.disk_layout.specs.Directory.{IsDirectory, map_place, type_byte}
use Rattle.disk_layout.specs.Fault.{Holds, nowhere}
use Rattle.disk_layout.specs.Layout.{File, HasChain, IsClosedType, IsLayout, IsPlainFile, IsSound, Layout}
use Rattle.disk_layout.specs.Layout.{OwnsNothing, is_rel, owners, record_length, sides_for}
use Rattle.disk_layout.specs.declared.faults.Fault.{Fault}
use Rattle.disk_layout.specs.declared.faults.Fault.TheVariants.{Device}

-- a relative file whose side sectors may hold anything: its chain, its record length, and a place for each side sector,
-- the first of which the entry names
pub record HasSidePlaces (img : Image) (f : File) : Type 0 where
  pub chain : HasChain img f
  pub length_low : 1 ≤ record_length f.slot
  pub length_high : record_length f.slot ≤ 254
  pub count : length f.sides ≡ sides_for (length f.blocks)
  pub first_side : (q : Place) → slice_get f.sides 0 ≡ Some q → Names f.slot.bytes 21 q

-- the entry is closed, and its file is as its type requires, whatever its side sectors hold
pub record IsFileButSides (img : Image) (f : File) : Type 0 where
  pub closed : IsClosedType (type_byte f.slot)
  pub rel : IsTrue (is_rel f.slot) → HasSidePlaces img f
  pub empty : IsFalse (is_rel f.slot) → slice_index f.slot.bytes 3 ≡ 0 → OwnsNothing f
  pub plain : IsFalse (is_rel f.slot) → slice_index f.slot.bytes 3 ≢ 0 → IsPlainFile img f

-- l is the layout of the image but for what its side sectors hold: each place has one owner
pub record IsLayoutButSides (img : Image) (l : Layout) : Type 0 where
  pub directory : IsDirectory img l.directory (map (λ f. f.slot) l.files)
  pub files : AllByRecursion (IsFileButSides img) l.files
  pub once : EachOnce (map_place ∷ owners l)

-- the places of all side sectors
abbrev pub side_places : Layout → List Place
side_places l = flat_map (λ f. f.sides) l.files

-- the images differ in side sectors of the layout at most
abbrev pub SameButSides : Layout → Image → Image → Type 0
SameButSides l old new = (p : Place) → ¬ (Contains (side_places l) p) → sector new p ≡ sector old p

-- the new image is sound, and has the directory and the chains of the old one, with all bytes; only side sectors differ
pub record IsRebuilt (old new : Image) : Type 0 where
  pub layout : Layout
  pub before : IsLayoutButSides old layout
  pub sound : IsLayout new layout
  pub same : SameButSides layout old new

-- an image on the way: it has the directory and the chains of the old one, with all bytes; only side sectors differ
pub record IsUnderRebuilding (old c : Image) : Type 0 where
  pub layout : Layout
  pub before : IsLayoutButSides old layout
  pub now : IsLayoutButSides c layout
  pub same : SameButSides layout old c

-- the device failed, at the place that the fault names
abbrev pub FailsWith : {D : Type 0} → History D → D → D → Fault → Type 0
FailsWith S old new fault = Failed S old new × ((p : Place) × (fault ≡ Device p) × S.failed_at new p)

-- why side sectors aren't rebuilt: a fault that holds, and then the device is as it was; or the device failed
abbrev pub RefusesSides : {D : Type 0} → History D → D → D → Result (Unit {0}) Fault → Type 0
RefusesSides S old new (Ok _) = Unit {0}
RefusesSides S old new (Err fault) = ((new ≡ old) × Holds nowhere (S.image old) fault)
    ⊎ FailsWith S old new fault

-- The result of rebuilding the side sectors of a disk.
pub record RebuildsSides {D : Type 0} (S : History D) (old new : D) (result : Result (Unit {0}) Fault) : Type 0 where
  pub ok : OnOk result (IsRebuilt (S.image old) (S.image new))
  pub err : RefusesSides S old new result
  pub moments : HeldOnly S old new (λ c. (c ≡ S.image old) ⊎ IsUnderRebuilding (S.image old) c)
  pub unfailed : OnOk result (S.failures new ≡ S.failures old)
  -- a sound disk isn't written
  pub quiet : IsSound (S.image old) → new ≡ old
