-- Block counts made right, a directory sector at a time. Our own words on the block count of the 1541 User's Guide.
use Rattle.std.specs.Prelude.{ℕ, ◌≡◌, ◌+◌, ◌<◌, ◌⊎◌, List, [], ◌∷◌, Contains, IsTrue, length, slice_index}
use Rattle.d64_image.specs.Images.{Image, Sector, sector}
use Rattle.d64_image.specs.declared.place.Place.{Place}
use Rattle.disk_layout.specs.Directory.{slot_in}
use Rattle.disk_layout.specs.Layout.{File, IsLayout, IsSound, Layout, count_field, is_rel, sides_for}
use Rattle.disk_layout.specs.Same.{IsCountByte, SameFiles}

-- how many sectors the file owns: its data blocks, and the side sectors that these need
abbrev pub owned_count : File → ℕ
owned_count f = length f.blocks + sides_for (length f.blocks)

-- the file is relative, and its slot is number n of the directory sector at p
pub record IsRelAt (l : Layout) (p : Place) (n : ℕ) (f : File) : Type 0 where
  pub own : Contains l.files f
  pub rel : IsTrue (is_rel f.slot)
  pub sector : f.slot.sector ≡ p
  pub number : f.slot.number ≡ n

-- in these bytes of the directory sector at p the block count of slot n is right, if the slot is a relative entry's
abbrev pub IsRightAt : Image → Place → Sector → ℕ → Type 0
IsRightAt img p bytes n = (l : Layout) (f : File) → IsLayout img l → IsRelAt l p n f
    → count_field (slot_in p bytes n) ≡ owned_count f

-- and that of each of its eight slots
abbrev pub AreRightIn : Image → Place → Sector → Type 0
AreRightIn img p bytes = (n : ℕ) → n < 8 → IsRightAt img p bytes n

-- the block counts of all relative files of the image are right
abbrev pub AreCounted : Image → Type 0
AreCounted img = (l : Layout) (f : File) → IsLayout img l → Contains l.files f → IsTrue (is_rel f.slot)
    → count_field f.slot ≡ owned_count f

-- the bytes of a directory sector differ only in block counts of relative entries
pub record IsCountedAs (old new : Sector) : Type 0 where
  pub old_long : length old ≡ 256
  pub long : length new ≡ 256
  pub same : (i : ℕ) → i < 256 → IsCountByte old i ⊎ (slice_index new i ≡ slice_index old i)

-- the bytes of a directory sector got counts that are right in this sense, and nothing else changed; bytes that were
-- right are the same
pub record GetsCounts (Right : Sector → Type 0) (old new : Sector) : Type 0 where
  pub counts : IsCountedAs old new
  pub right : Right new
  pub kept : Right old → new ≡ old

-- the image differs only in block counts of relative entries in these directory sectors
pub record IsRecountOf (old new : Image) (ps : List Place) : Type 0 where
  pub counts : (p : Place) → Contains ps p → IsCountedAs (sector old p) (sector new p)
  pub rest : (p : Place) → ¬ (Contains ps p) → sector new p ≡ sector old p

-- a layout of the new image with the same files, and the same bytes in every sector outside the directory
pub record IsSameButCounts (old new : Image) (l : Layout) : Type 0 where
  pub layout : Layout
  pub sound : IsLayout new layout
  pub files : SameFiles old new l layout
  pub rest : (p : Place) → ¬ (Contains l.directory p) → sector new p ≡ sector old p

-- this holds for each layout of the old image
abbrev pub KeepsButCounts : Image → Image → Type 0
KeepsButCounts old new = (l : Layout) → IsLayout old l → IsSameButCounts old new l

-- the place is one of the directory
abbrev pub IsInDirectory : Image → Place → Type 0
IsInDirectory img p = (l : Layout) → IsLayout img l → Contains l.directory p

-- the place is one of the directory of a sound image
pub record IsDirectorySector (img : Image) (p : Place) : Type 0 where
  pub sound : IsSound img
  pub own : IsInDirectory img p

-- one directory sector has other counts, and everything else is the same
abbrev pub IsRecountAt : Image → Place → Image → Type 0
IsRecountAt old p new = IsRecountOf old new (p ∷ [])

-- the image is the old one, or has other counts in that sector
abbrev pub OldOrRecounted : Image → Place → Image → Type 0
OldOrRecounted old p new = (new ≡ old) ⊎ IsRecountAt old p new
