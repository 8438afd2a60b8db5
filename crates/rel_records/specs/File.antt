-- A relative file as it is kept to find its records, and the file of an image that it shows. Our own.
use Rattle.std.specs.Prelude.{ℕ, ◌≡◌, ◌≤◌, IsTrue, Some, length, slice_get}
use Rattle.d64_image.specs.Images.{Image}
use Rattle.disk_layout.specs.Layout.{File, IsLayout, Layout, is_rel, record_length}
use Rattle.disk_layout.specs.Records.{record_count}
use Rattle.rel_records.specs.declared.rel_file.RelFile.{RelFile}

-- a length that records can have, in bytes
pub record IsLength (L : ℕ) : Type 0 where
  pub low : 1 ≤ L
  pub high : L ≤ 254

-- its place among the used entries, from 0, when it was found or made
abbrev pub entry_of : RelFile → ℕ
entry_of v = v.entry

-- the length of its records
abbrev pub length_of : RelFile → ℕ
length_of v = v.size

-- how many data blocks it has
abbrev pub blocks_of : RelFile → ℕ
blocks_of v = v.blocks

-- the last index
abbrev pub last_of : RelFile → ℕ
last_of v = v.last

-- how many records it has
abbrev pub records_in : RelFile → ℕ
records_in v = record_count v.blocks v.last v.size

-- what is kept is of this file
pub record Shows (f : File) (v : RelFile) : Type 0 where
  pub sector : v.sector ≡ f.slot.sector
  pub number : v.number ≡ f.slot.number
  pub size : v.size ≡ record_length f.slot
  pub sides : v.sides.items ≡ f.sides
  pub blocks : v.blocks ≡ length f.blocks
  pub last : v.last ≡ f.last

-- l is the layout of the image, f its file at place n, a relative one, and v is of it
pub record IsFileOf (img : Image) (l : Layout) (n : ℕ) (f : File) (v : RelFile) : Type 0 where
  pub layout : IsLayout img l
  pub there : slice_get l.files n ≡ Some f
  pub rel : IsTrue (is_rel f.slot)
  pub shows : Shows f v

-- v is of the image as it is: of one of its relative files
abbrev pub IsOf : Image → RelFile → Type 0
IsOf img v = (l : Layout) × (n : ℕ) × (f : File) × IsFileOf img l n f v

-- P holds of the file that v is of: f, at place n of the layout l
abbrev pub OfItsFile : Image → RelFile → (Layout → ℕ → File → Type 0) → Type 0
OfItsFile img v P = (l : Layout) → (n : ℕ) → (f : File) → IsFileOf img l n f v → P l n f
