-- The layout of the blank image, in which all records are empty. Our own.
use Rattle.std.specs.Prelude.{◌≡◌, ◌≤◌, ℕ, ◌+◌, ◌-◌, ◌*◌, ◌/◌, codes, List, [], ◌∷◌, replicate}
use Rattle.d64_image.specs.Images.{Image, IsImage}
use Rattle.d64_image.specs.declared.place.Place.{Place}
use Rattle.disk_layout.specs.Blank.{IsBlank, blank_directory, request_blocks, requests_side, stock_block, stock_side}
use Rattle.disk_layout.specs.Clean.{IsCleanLayout}
use Rattle.disk_layout.specs.Directory.{directory_start, slot_in}
use Rattle.disk_layout.specs.Layout.{File, Layout}
use Rattle.disk_layout.specs.Records.{empty_record, records}
use Rattle.disk_layout.specs.Rest.{IsFirst}
use Rattle.disk_layout.specs.Room.{IsTopOf}
use Rattle.disk_layout.specs.Whole.{IsWhole}

-- STOCK: its block ends with index 253, after 14 records of 18 bytes
abbrev pub stock_file : ℕ → File
stock_file n = record {
  slot = slot_in directory_start (blank_directory n) 0;
  blocks = stock_block ∷ [];
  last = 253;
  sides = stock_side ∷ [];
}

-- REQUESTS with n data blocks: the last one is full
abbrev pub requests_file : ℕ → List Place → File
requests_file n blocks = record {
  slot = slot_in directory_start (blank_directory n) 1;
  blocks = blocks;
  last = 255;
  sides = requests_side ∷ [];
}

-- a directory of one sector, and the two files
abbrev pub blank_layout : ℕ → List Place → Layout
blank_layout n blocks = record { directory = directory_start ∷ []; files = stock_file n ∷ requests_file n blocks ∷ [] }

-- the image is clean with this layout, each file is found by its name, and all records are empty: 14 and two to a block
pub record IsCleanBlank (img : Image) (n : ℕ) (blocks : List Place) : Type 0 where
  pub clean : IsCleanLayout img (blank_layout n blocks)
  pub stock : IsFirst (blank_layout n blocks) (codes "STOCK") 0 (stock_file n)
  pub requests : IsFirst (blank_layout n blocks) (codes "REQUESTS") 1 (requests_file n blocks)
  pub stock_records : records img (stock_file n) ≡ replicate 14 (empty_record 18)
  pub request_records : records img (requests_file n blocks) ≡ replicate (2 * n) (empty_record 127)

-- each blank image is clean, whatever the disk held before
abbrev pub BlankIsClean : Type 0
BlankIsClean = (old new : Image) (name id : List ℕ) (tills : ℕ) → 1 ≤ tills → tills ≤ 64 → IsImage new
    → (blank : IsBlank old new name id tills) → IsCleanBlank new (request_blocks tills) blank.blocks

-- and all its files are whole
abbrev pub BlankIsWhole : Type 0
BlankIsWhole = (old new : Image) (name id : List ℕ) (tills : ℕ) → 1 ≤ tills → tills ≤ 64 → IsImage new
    → IsBlank old new name id tills → IsWhole new

-- The greatest record number of STOCK on the blank image, with this number of tills: 9256 for 1 till, 8819 for 64.
-- There are 664 sectors outside track 18. REQUESTS owns its data blocks and one side sector. STOCK then needs six side
-- sectors.
abbrev pub blank_top : ℕ → ℕ
blank_top tills = 254 * (664 - (request_blocks tills + 1) - 6) / 18

-- so far STOCK can grow on each blank image
abbrev pub BlankHasTop : Type 0
BlankHasTop = (old new : Image) (name id : List ℕ) (tills : ℕ) → 1 ≤ tills → tills ≤ 64 → IsImage new
    → IsBlank old new name id tills → IsTopOf new (codes "STOCK") (blank_top tills)
