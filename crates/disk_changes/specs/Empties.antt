-- A file that gives up its only block. Our own.
use Rattle.std.specs.Prelude.{◌≡◌, ◌∷◌, [], List, None, false, replicate, slice_range, ℕ}
use Rattle.d64_image.specs.Images.{Image, Sector, put, sector}
use Rattle.d64_image.specs.Memory.{sectors_in}
use Rattle.d64_image.specs.declared.place.Place.{Place}
use Rattle.damaged_files.specs.reached.Reached.{IsReached}
use Rattle.disk_changes.specs.Judged.{IsSoundDisk}
use Rattle.disk_changes.specs.Rewrites.{IsPlainNamed, now_at}
use Rattle.disk_changes.specs.Sorts.{with_entry}
use Rattle.disk_layout.specs.Directory.{map_place, type_byte}
use Rattle.disk_layout.specs.Layout.{Layout, is_rel}
use Rattle.disk_layout.specs.Map.{IsGiven}
use Rattle.disk_layout.specs.declared.slot.Slot.{Slot}

-- the entry t has the type and the name of s, names no first block and counts none, and isn't that of a relative file
pub record IsWithoutBlock (s t : Slot) : Type 0 where
  pub plain : is_rel t ≡ false
  pub kind : type_byte t ≡ type_byte s
  pub named : slice_range t.bytes 5 21 ≡ slice_range s.bytes 5 21
  pub first : slice_range t.bytes 3 5 ≡ replicate 2 0
  pub count : slice_range t.bytes 30 32 ≡ replicate 2 0

-- c is b with this sector free in the map, which was taken there
abbrev pub IsGivenBack : (b : Image) → Place → (c : Image) → Type 0
IsGivenBack b p c = (map : Sector) × IsGiven (sector b map_place) map p × (c ≡ put b map_place map)

-- The first file of that name had one block. Now its entry names none, and the map calls that block free. The disk with the new entry
-- is sound.
pub record IsEmptied (b : Image) (l : Layout) (name : List ℕ) (c : Image) : Type 0 where
  pub slot : Slot
  pub named : IsPlainNamed l name slot
  pub block : Place
  pub last : ℕ
  pub one : IsReached b slot (block ∷ []) None last
  pub entry : Slot
  pub bytes : List ℕ
  pub is : sectors_in bytes ≡ with_entry b slot entry
  pub sound : IsSoundDisk bytes
  pub empty : IsWithoutBlock slot (now_at (sectors_in bytes) slot)
  pub given : IsGivenBack (sectors_in bytes) block c
