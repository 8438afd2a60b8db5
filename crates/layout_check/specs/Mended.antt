-- What a repair may change, and what it leaves. Our own.
use Rattle.std.specs.Prelude.{ℕ, ◌≡◌, Contains, Err, IsTrue, List, Ok, Result}
use Rattle.d64_image.specs.History.{Changes, Failed, History}
use Rattle.d64_image.specs.Images.{Image, sector}
use Rattle.d64_image.specs.declared.place.Place.{Place}
use Rattle.disk_layout.specs.Directory.{map_place}
use Rattle.disk_layout.specs.Layout.{File, IsLayout, Layout, is_rel}
use Rattle.disk_layout.specs.Same.{SameFiles}
use Rattle.disk_layout.specs.declared.faults.Fault.{Fault}
use Rattle.disk_layout.specs.declared.faults.Fault.TheVariants.{Device}
use Rattle.disk_layout.specs.declared.slot.Slot.{Slot}
use Rattle.layout_check.specs.Exact.{AreExactSides}

-- the image c is sound, and has the files of a; only the map, side sectors and block counts may differ
pub record IsMended (a : Image) (l : Layout) (c : Image) : Type 0 where
  pub layout : Layout
  pub sound : IsLayout c layout
  pub same : SameFiles a c l layout

-- a call that makes at most n writes: whatever image the disk came from by mending, each image held is mended from it
abbrev pub Mends : {D : Type 0} → History D → D → D → ℕ → Type 0
Mends S old new n = (a : Image) (l : Layout) → IsMended a l (S.image old) → Changes S old new n (IsMended a l)

-- the only error is Device, at a place at which the device failed; Ok only if no failure was counted
abbrev pub TellsDevice : {D T : Type 0} → History D → D → D → Result T Fault → Type 0
TellsDevice S old new (Ok _) = S.failures new ≡ S.failures old
TellsDevice S old new (Err fault) = Failed S old new × ((p : Place) × (fault ≡ Device p) × S.failed_at new p)

-- each layout of the one is a layout of the other
abbrev pub KeepsLayouts : Image → Image → Type 0
KeepsLayouts old new = (l : Layout) → IsLayout old l → IsLayout new l

-- these are the slot, the data blocks and the side sectors of a relative file of the image
pub record IsPartsOf (img : Image) (s : Slot) (blocks sides : List Place) : Type 0 where
  pub layout : Layout
  pub sound : IsLayout img layout
  pub file : File
  pub own : Contains layout.files file
  pub rel : IsTrue (is_rel file.slot)
  pub slot : file.slot ≡ s
  pub blocks_are : file.blocks ≡ blocks
  pub sides_are : file.sides ≡ sides

-- the side sectors of this relative entry, as the old image has it, are exact in the new one
abbrev pub IsExactFor : Image → Image → Slot → Type 0
IsExactFor old new s = (blocks sides : List Place) → IsPartsOf old s blocks sides → AreExactSides new s blocks sides

-- the side sectors of all relative entries are
abbrev pub AreExactFor : Image → Image → Type 0
AreExactFor old new = (s : Slot) → IsExactFor old new s

-- 18/0 is the same
abbrev pub SameMap : Image → Image → Type 0
SameMap old new = sector new map_place ≡ sector old map_place
