-- Whether the first file of a name is cut short. Our own, over the 1541 User's Guide's directory format.
use Rattle.std.specs.Prelude.{◌≡◌, ◌<◌, ℕ, List, Some, slice_get, slice_range}
use Rattle.d64_image.specs.Images.{Image}
use Rattle.d64_image.specs.declared.place.Place.{Place}
use Rattle.disk_layout.specs.Layout.{File, IsLayout, Layout}
use Rattle.disk_layout.specs.Rest.{slot_name}
use Rattle.disk_layout.specs.declared.slot.Slot.{Slot}
use Rattle.damaged_files.specs.cut.Cut.{IsCutAt}

-- the entry has this name, of whatever type
abbrev pub IsOfName : (name : List ℕ) → Slot → Type 0
IsOfName name s = slice_range s.bytes 5 21 ≡ slot_name name

-- this entry is the first of these that has the name
pub record IsFirstOfName (entries : List Slot) (name : List ℕ) (entry : Slot) : Type 0 where
  pub number : ℕ
  pub there : slice_get entries number ≡ Some entry
  pub named : IsOfName name entry
  pub first : (k : ℕ) (t : Slot) → k < number → slice_get entries k ≡ Some t → ¬ (IsOfName name t)

-- none of them has it
abbrev pub HasNoneOfName : List Slot → (name : List ℕ) → Type 0
HasNoneOfName entries name = (k : ℕ) (t : Slot) → slice_get entries k ≡ Some t → ¬ (IsOfName name t)

-- the first file of the name on a sound disk is cut short, and ends at p
pub record IsCutNamed (img : Image) (name : List ℕ) (p : Place) : Type 0 where
  pub layout : Layout
  pub sound : IsLayout img layout
  pub number : ℕ
  pub file : File
  pub there : slice_get layout.files number ≡ Some file
  pub named : IsOfName name file.slot
  pub first : (k : ℕ) (g : File) → k < number → slice_get layout.files k ≡ Some g → ¬ (IsOfName name g.slot)
  pub cut : IsCutAt img layout file p
