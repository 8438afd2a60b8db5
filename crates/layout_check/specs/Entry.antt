-- What a used slot of the directory shows by itself (1541 User's Guide, directory format).
use Rattle.std.specs.Prelude.{ℕ, ◌≡◌, ◌≢◌, ◌⊎◌, ◌<◌, ◌≤◌, IsTrue, List}
use Rattle.d64_image.specs.Images.{Image}
use Rattle.d64_image.specs.declared.place.Place.{Place}
use Rattle.disk_layout.specs.Chain.{IsChain, Names}
use Rattle.disk_layout.specs.Directory.{type_byte}
use Rattle.disk_layout.specs.Fault.{IsSlot}
use Rattle.disk_layout.specs.Layout.{IsClosedType, is_rel, record_length}
use Rattle.disk_layout.specs.declared.faults.Fault.{Fault}
use Rattle.disk_layout.specs.declared.faults.Fault.TheVariants.{BadLength, BadType, Unclosed}
use Rattle.disk_layout.specs.declared.slot.Slot.{Slot}

-- a used slot of the directory sector that it names
pub record IsEntry (img : Image) (s : Slot) : Type 0 where
  pub slot : IsSlot img s.sector s
  pub used : type_byte s ≢ 0

-- the type is one of a closed entry, and a relative entry has a record length from 1 to 254
pub record IsProper (s : Slot) : Type 0 where
  pub closed : IsClosedType (type_byte s)
  pub length : IsTrue (is_rel s) → (1 ≤ record_length s) × (record_length s ≤ 254)

-- the fault is what the slot's own bytes show, reported at its directory sector
abbrev pub IsShown : Slot → Fault → Type 0
IsShown s (BadType p) = (p ≡ s.sector) × (128 ≤ type_byte s) × ¬ (IsClosedType (type_byte s))
IsShown s (Unclosed p) = (p ≡ s.sector) × (type_byte s < 128)
IsShown s (BadLength p) = (p ≡ s.sector) × (128 ≤ type_byte s) × IsTrue (is_rel s)
    × ((record_length s ≡ 0) ⊎ (record_length s ≡ 255))
IsShown s _ = ⊥

-- these are the blocks of the chain that the slot names, and the last one ends with index u
abbrev pub HasBlocks : Image → Slot → List Place → ℕ → Type 0
HasBlocks img s blocks u = (p : Place) × Names s.bytes 3 p × IsChain img p blocks u
