-- Entries of a directory by their names (1541 User's Guide, directory format), and the relative file of one.
use Rattle.std.specs.Prelude.{ℕ, ◌≡◌, ◌<◌, IsTrue, List, Some, slice_get, slice_range}
use Rattle.d64_image.specs.Images.{Image}
use Rattle.disk_layout.specs.Layout.{File, IsRelFile, is_rel}
use Rattle.disk_layout.specs.Rest.{slot_name}
use Rattle.disk_layout.specs.declared.slot.Slot.{Slot}

-- the slot is that of a closed relative file of this name
abbrev pub IsNamedSlot : List ℕ → Slot → Type 0
IsNamedSlot name s = IsTrue (is_rel s) × (slice_range s.bytes 5 21 ≡ slot_name name)

-- none of these slots is
abbrev pub HasNoneNamed : List Slot → List ℕ → Type 0
HasNoneNamed slots name = (k : ℕ) (s : Slot) → slice_get slots k ≡ Some s → ¬ (IsNamedSlot name s)

-- slot n of these is, and none before it
pub record IsFirstNamed (slots : List Slot) (name : List ℕ) (n : ℕ) : Type 0 where
  pub slot : Slot
  pub there : slice_get slots n ≡ Some slot
  pub named : IsNamedSlot name slot
  pub first : (k : ℕ) (s : Slot) → k < n → slice_get slots k ≡ Some s → ¬ (IsNamedSlot name s)

-- f is the relative file of this slot
pub record IsRelOf (img : Image) (s : Slot) (f : File) : Type 0 where
  pub slot : f.slot ≡ s
  pub file : IsRelFile img f

-- the slot is that of a relative file
abbrev pub HasRel : Image → Slot → Type 0
HasRel img s = (f : File) × IsRelOf img s f
