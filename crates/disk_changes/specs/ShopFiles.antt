-- The two files of a shop, which aren't renamed or deleted. Our own.
use Rattle.std.specs.Prelude.{◌≡◌, ◌⊎◌, ℕ, IsTrue, List, Some, codes, length, slice_get}
use Rattle.d64_image.specs.Memory.{sectors_in}
use Rattle.d64_image.specs.declared.place.Place.{Place}
use Rattle.disk_layout.specs.Directory.{IsDirectory}
use Rattle.disk_layout.specs.Layout.{is_rel, record_length}
use Rattle.disk_layout.specs.Rest.{slot_name}
use Rattle.disk_layout.specs.declared.slot.Slot.{Slot}
use Rattle.file_changes.specs.Entries.{HasName}

-- the entry is that of a closed relative file of this name, with records of L bytes
abbrev pub IsRelativeOf : (name : List ℕ) (L : ℕ) → Slot → Type 0
IsRelativeOf name L s = IsTrue (is_rel s) × (record_length s ≡ L) × HasName (slot_name name) s

-- the entry is that of one of a shop's files
abbrev pub IsShopSlot : Slot → Type 0
IsShopSlot s = IsRelativeOf (codes "STOCK") 18 s ⊎ IsRelativeOf (codes "REQUESTS") 127 s

-- the entry has this name, and is that of one of a shop's files
abbrev pub IsNamedShopSlot : (name : List ℕ) → Slot → Type 0
IsNamedShopSlot name s = HasName (slot_name name) s × IsShopSlot s

-- an entry of the image's directory has this name, and is that of one of a shop's files
pub record HasShopFile (image name : List ℕ) : Type 0 where
  pub size : length image ≡ 174848
  pub sectors : List Place
  pub entries : List Slot
  pub directory : IsDirectory (sectors_in image) sectors entries
  pub number : ℕ
  pub slot : Slot
  pub there : slice_get entries number ≡ Some slot
  pub shop : IsNamedShopSlot name slot
