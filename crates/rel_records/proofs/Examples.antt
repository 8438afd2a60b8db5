-- The definitions on small numbers: none is empty, and each says what its comment says.
use Rattle.std.proofs.Common.{inl, inr, refl, [], ◌∷◌, ◌≡◌, ◌≢◌, ◌<◌, IsTrue, ℕ, zero, suc, ap, arith, lit<, map}
use Rattle.std.proofs.Common.{replicate, subst, take, drop, ◌++◌}
use Rattle.std.specs.Prelude.{Some, slice_get}
use Rattle.d64_image.proofs.Images.{sector-put_other}
use Rattle.d64_image.specs.Images.{Image, Sector, put, sector}
use Rattle.d64_image.specs.declared.place.Place.{Place}
use Rattle.disk_layout.specs.Directory.{directory_start, is_used, map_place, slot_in}
use Rattle.disk_layout.specs.Layout.{File, Layout}
use Rattle.rel_records.specs.Others.{KeepsOthers}
use Rattle.rel_records.specs.Puts.{IsPutSoFar, put_each}
use Rattle.rel_records.specs.Written.{grown_by, patched, room_in_first, touched, with_written, written}
use Rattle.rel_records.specs.creation.Made.{creation_writes}
use Rattle.rel_records.specs.creation.Room.{IsFirstSlot, IsFullSector}
use Rattle.rel_records.specs.growth.Growth.{added, blocks_for, full, needed, run_writes, side_writes}

-- STOCK, of 18 bytes a record: record 9256 needs 656 data blocks, record 10160 is the last of 720, one block holds 14
blocks : (blocks_for 18 9256 ≡ 656) × (blocks_for 18 10160 ≡ 720) × (blocks_for 18 10161 ≡ 721) × (full 18 1 ≡ 14)
    × (full 18 2 ≡ 28)
blocks = (refl, refl, refl, refl, refl)

-- record 15 brings 14 more, record 14 none; with records 1 to 9256, 656 blocks and six side sectors in place of one and
-- one
growing : (added 18 14 15 ≡ 14) × (added 18 14 14 ≡ 0) × (needed 1 656 ≡ 660) × (needed 120 121 ≡ 2)
growing = (refl, refl, refl, refl)

-- five writes a block, and the older side sectors with each new one: 1, 2, 3, 4 and 5
counts : (side_writes 121 ≡ 1) × (side_writes 656 ≡ 15) × (run_writes 1 656 ≡ 3290) × (run_writes 120 121 ≡ 6)
counts = (refl, refl, refl, refl)

-- a text that fits, one that is cut, and an empty one
texts : (written 4 2 (7 ∷ []) (1 ∷ 2 ∷ 3 ∷ 4 ∷ []) ≡ 1 ∷ 7 ∷ 0 ∷ 0 ∷ [])
    × (written 4 3 (7 ∷ 8 ∷ 9 ∷ []) (1 ∷ 2 ∷ 3 ∷ 4 ∷ []) ≡ 1 ∷ 2 ∷ 7 ∷ 8 ∷ [])
    × (written 4 3 [] (1 ∷ 2 ∷ 3 ∷ 4 ∷ []) ≡ 1 ∷ 2 ∷ 0 ∷ 0 ∷ [])
texts = (refl, refl, refl)

-- of 100 bytes a record, record 3 has 54 in its first block; from position 50 on both are touched, from 60 on the
-- second
crossing : (room_in_first 100 3 ≡ 54) × (touched 100 3 50 ≡ 2) × (touched 100 3 60 ≡ 1) × (touched 18 15 1 ≡ 2)
crossing = (refl, refl, refl, refl)

-- record 2 of two, and record 3 behind them
lists : (with_written 2 2 1 (7 ∷ []) ((1 ∷ 2 ∷ []) ∷ (3 ∷ 4 ∷ []) ∷ []) ≡ (1 ∷ 2 ∷ []) ∷ (7 ∷ 0 ∷ []) ∷ [])
    × (grown_by 2 1 ((1 ∷ 2 ∷ []) ∷ []) ≡ (1 ∷ 2 ∷ []) ∷ (255 ∷ 0 ∷ []) ∷ [])
lists = (refl, refl)

-- data bytes 1 and 2 of a block, behind its link
bytes : patched 1 3 (9 ∷ []) (17 ∷ 4 ∷ 1 ∷ 2 ∷ 3 ∷ 4 ∷ []) ≡ 17 ∷ 4 ∷ 1 ∷ 9 ∷ 0 ∷ 4 ∷ []
bytes = refl

-- six entries in the eight slots of 18/1: a creation writes four sectors; eight: five
creation : (f : File) → (creation_writes (record { directory = directory_start ∷ []; files = replicate 6 f }) ≡ 4)
    × (creation_writes (record { directory = directory_start ∷ []; files = replicate 8 f }) ≡ 5)
creation f = (refl, refl)

-- the first slot of a directory sector of zeros is free, and the second where the first has an entry
first_slot : (p : Place) → IsFirstSlot p (replicate 256 0) 0
first_slot p = record { number = omega arith; free = refl; used = λ k lt. absurd (omega (arith, lt)) }

second_slot : (p : Place) → IsFirstSlot p (0 ∷ 255 ∷ 132 ∷ replicate 253 0) 1
second_slot p = record { number = omega arith; free = refl; used = used }
  where
    used : (k : ℕ) → k < 1 → IsTrue (is_used (slot_in p (0 ∷ 255 ∷ 132 ∷ replicate 253 0) k))
    used zero lt = refl
    used (suc k) lt = absurd (omega (arith, lt))

-- a sector of used slots alone is full
full_sector : (p : Place) → IsFullSector p (replicate 256 132)
full_sector p zero lt = refl
full_sector p (suc zero) lt = refl
full_sector p (suc (suc zero)) lt = refl
full_sector p (suc (suc (suc zero))) lt = refl
full_sector p (suc (suc (suc (suc zero)))) lt = refl
full_sector p (suc (suc (suc (suc (suc zero))))) lt = refl
full_sector p (suc (suc (suc (suc (suc (suc zero)))))) lt = refl
full_sector p (suc (suc (suc (suc (suc (suc (suc zero))))))) lt = refl
full_sector p (suc (suc (suc (suc (suc (suc (suc (suc k)))))))) lt = absurd (omega (arith, lt))

-- where the two files lie
abbrev stock_block : Place
stock_block = record { track = 17; sector = 0; on_disk = lit< tt }

abbrev stock_side : Place
stock_side = record { track = 17; sector = 1; on_disk = lit< tt }

abbrev requests_block : Place
requests_block = record { track = 17; sector = 2; on_disk = lit< tt }

abbrev requests_side : Place
requests_side = record { track = 17; sector = 3; on_disk = lit< tt }

-- STOCK with this last index, and REQUESTS beside it
abbrev stock : ℕ → File
stock u = record {
  slot = record { sector = directory_start; number = 0; bytes = [] };
  blocks = stock_block ∷ [];
  last = u;
  sides = stock_side ∷ [];
}

abbrev requests : File
requests = record {
  slot = record { sector = directory_start; number = 1; bytes = [] };
  blocks = requests_block ∷ [];
  last = 255;
  sides = requests_side ∷ [];
}

abbrev two_files : ℕ → Layout
two_files u = record { directory = directory_start ∷ []; files = stock u ∷ requests ∷ [] }

-- the block of STOCK is written: REQUESTS stays
one_file_changes : (a : Image) (bytes : Sector) → KeepsOthers a (put a stock_block bytes) (two_files 235)
    (two_files 253) 0
one_file_changes a bytes = record {
  directory = refl;
  entries = refl;
  files = files;
  bytes = same;
  header = ap (λ s. take 4 s ++ drop 144 s) (sector-put_other a stock_block map_place bytes
      (λ e. let t : ◌≡◌ {A = ℕ} 17 18 = ap (λ (p : Place). p.track) e in omega (arith, t)));
}
  where
    files : (k : ℕ) (f : File) → k ≢ 0 → slice_get (stock 235 ∷ requests ∷ []) k ≡ Some f
        → slice_get (stock 253 ∷ requests ∷ []) k ≡ Some f
    files zero f ne at = absurd (ne refl)
    files (suc k) f ne at = at

    block : sector (put a stock_block bytes) requests_block ≡ sector a requests_block
    block = sector-put_other a stock_block requests_block bytes (λ e. let t : ◌≡◌ {A = ℕ} 0 2 =
        ap (λ (p : Place). p.sector) e in omega (arith, t))

    same : (k : ℕ) (f : File) → k ≢ 0 → slice_get (stock 235 ∷ requests ∷ []) k ≡ Some f
        → map (sector (put a stock_block bytes)) f.blocks ≡ map (sector a) f.blocks
    same zero f ne at = absurd (ne refl)
    same (suc zero) f ne at =
        let e : requests ≡ f = cc in
        let P : File → Type 0 = λ g. map (sector (put a stock_block bytes)) g.blocks ≡ map (sector a) g.blocks in
        subst P e (ap (λ s. s ∷ []) block)
    same (suc (suc k)) f ne at = cc

-- two sectors put: both in the end, and the first one alone on the way
puts : (img : Image) (p q : Place) (a b : Sector) → (put_each ((p, a) ∷ (q, b) ∷ []) img ≡ put (put img p a) q b)
    × IsPutSoFar ((p, a) ∷ (q, b) ∷ []) img (put img p a)
puts img p q a b = (refl, inr (inl refl))
