-- The blank image in numbers, each computed, and how far a file alone on a disk can grow.
use Rattle.std.proofs.Common.{List, [], arith, refl, ℕ, ◌∷◌, ◌≡◌}
use Rattle.d64_image.specs.Images.{Sector}
use Rattle.d64_image.specs.declared.place.Place.{Place}
use Rattle.disk_layout.proofs.ExampleDisk.{IsStockSide, entry_bytes, stock-is_layout, stock_disk, stock_file}
use Rattle.disk_layout.proofs.ExampleDisk.{stock_layout}
use Rattle.disk_layout.proofs.ExampleDisk.{two_records}
use Rattle.disk_layout.specs.Directory.{directory_start}
use Rattle.disk_layout.specs.Layout.{File}
use Rattle.disk_layout.specs.Rest.{IsFirst, taken_by_others}
use Rattle.disk_layout.specs.Blank.{request_blocks, request_sector, request_track, taken_on}
use Rattle.disk_layout.specs.BlankLayout.{blank_top}
use Rattle.disk_layout.specs.Room.{IsTop, IsTopOf}

-- for 64 tills 32 blocks: 17/2, 17/4, .. 17/20, 19/0, .. 19/13; all of track 17 and fourteen sectors of track 19 are
-- taken
blocks-64 : (request_blocks 1 ≡ 1) × (request_blocks 3 ≡ 2) × (request_blocks 64 ≡ 32)
blocks-64 = (refl, refl, refl)

places-64 : (request_track 17 ≡ 17) × (request_sector 17 ≡ 20) × (request_track 18 ≡ 19) × (request_sector 31 ≡ 13)
places-64 = (refl, refl, refl, refl)

taken-64 : (taken_on 32 17 ≡ 21) × (taken_on 32 19 ≡ 14) × (taken_on 1 17 ≡ 4) × (taken_on 1 19 ≡ 0)
taken-64 = (refl, refl, refl, refl)

-- a blank image leaves STOCK 9256 records with 1 or 2 tills, 9242 with 3, 8819 with 64
pub blank-tops : blank_top 1 ∷ blank_top 2 ∷ blank_top 3 ∷ blank_top 64 ∷ [] ≡ 9256 ∷ 9256 ∷ 9242 ∷ 8819 ∷ []
blank-tops = refl

-- alone on a disk, a file of 18 bytes a record can grow to 658 blocks with six side sectors: 9285 records
pub top-alone : (ps : List Place) (f : File) → IsTop (record { directory = ps; files = f ∷ [] }) 0 9285
unfolding taken_by_others
top-alone ps f = record {
  fits = record { number = omega arith; blocks = omega arith; room = omega arith };
  greatest = λ s h. omega (arith, h.room);
}

-- so STOCK on its disk
abbrev stock_name : List ℕ
stock_name = 83 ∷ 84 ∷ 79 ∷ 67 ∷ 75 ∷ []

first-stock : (n : ℕ) → IsFirst (stock_layout 37 n) stock_name 0 (stock_file 37 n)
unfolding entry_bytes
first-stock n = record { file = refl; named = (refl, refl); first = λ k g h. absurd (omega (arith, h)) }

pub stock-top : (n : ℕ) (s m : Sector) → IsStockSide s → IsTopOf (stock_disk 37 n two_records s m) stock_name 9285
stock-top n s m side = record {
  layout = stock_layout 37 n;
  is_layout = stock-is_layout 37 n two_records s m side;
  place = 0;
  file = stock_file 37 n;
  first = first-stock n;
  top = top-alone (directory_start ∷ []) (stock_file 37 n);
}
