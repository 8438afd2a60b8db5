-- What repair, creation, growth and a request leave, on a disk with one small relative file.
use Rattle.std.proofs.Common.{List, [], ap, arith, drop, inl, inr, lit<, lit≤, refl, replicate, set, sym, take, true, ℕ}
use Rattle.std.proofs.Common.{zero, suc, ◌*◌, ◌+◌, ◌++◌, ◌<◌, ◌≤◌, ◌∙◌, ◌∷◌, ◌≡◌, ◌≢◌, ◌⊎◌, Bool}
use Rattle.std.proofs.lemmas.Bool.{agree_below, agree_below_at, cases_eq, eqb-true, lt-ltb}
use Rattle.std.proofs.lemmas.List.{get_or-set_other}
use Rattle.std.specs.Prelude.{nat_eq, nat_lt, slice_index}
use Rattle.d64_image.proofs.Places.{same_or_other}
use Rattle.d64_image.specs.Images.{Image, Sector, sector}
use Rattle.disk_layout.proofs.ExampleDisk.{at_block, at_entry, at_map, at_other, disk, entry_bytes}
use Rattle.disk_layout.proofs.ExampleDisk.{entry_slot, exact_side, lower_sector, lower_track, not-in}
use Rattle.disk_layout.proofs.ExampleDisk.{stock_disk, stock_file, stock_layout}
use Rattle.disk_layout.proofs.ExampleDisk.{two_records}
use Rattle.disk_layout.proofs.ExampleFaults.{changed_side}
use Rattle.disk_layout.proofs.ExampleMap.{map_bytes}
use Rattle.disk_layout.proofs.Examples.{block_0, block_1, zero_sector}
use Rattle.disk_layout.proofs.lemmas.lists.Once.{Contains-cases, Contains-here, Contains-nil}
use Rattle.disk_layout.specs.Directory.{directory_start, map_place}
use Rattle.disk_layout.specs.Entries.{IsRecounted, IsRecountedAll, SameEntries}
use Rattle.disk_layout.specs.Records.{IsFilled, empty_record, filler, joined, record_count, records}
use Rattle.disk_layout.specs.Rest.{header_of, rest_of}
use Rattle.disk_layout.specs.Same.{AddsFile, IsCountByte, SameButCounts, SameFiles}

-- block counts: another count leaves the entry, and changes byte 30 of its sector alone
pub same-entries : (n k : ℕ) → SameEntries (entry_slot 132 1 18 n ∷ []) (entry_slot 132 1 18 k ∷ [])
unfolding entry_bytes
same-entries n k = refl

other-byte : (n k i : ℕ) → i ≢ 30 → slice_index (entry_bytes 132 1 18 k) i ≡ slice_index (entry_bytes 132 1 18 n) i
unfolding entry_bytes
other-byte n k i h = get_or-set_other (entry_bytes 132 1 18 n) 30 i k 0 h

pub recounted : (n k : ℕ) → IsRecounted (entry_bytes 132 1 18 n) (entry_bytes 132 1 18 k) 0
unfolding entry_bytes
recounted n k = record {
  old_long = refl;
  long = refl;
  same = λ i out. other-byte n k i (λ e. elim out [ inl h ↦ omega (arith, e, h) | inr h ↦ omega (arith, e, h) ]);
}

pub recounted_all : (n k : ℕ) → IsRecountedAll (entry_bytes 132 1 18 n) (entry_bytes 132 1 18 k)
unfolding entry_bytes
recounted_all n k = record {
  old_long = refl;
  long = refl;
  same = λ s i slot low. other-byte n k (32 * s + i) (λ e. omega (arith, e, low));
}

-- a repair: count, side sector and map are other bytes, and the file stays
abbrev wrong_disk : Image
wrong_disk = stock_disk 37 3 two_records changed_side (map_bytes 18 253)

abbrev right_disk : Image
right_disk = stock_disk 37 2 two_records exact_side (map_bytes 19 252)

block-same : sector right_disk block_0 ≡ sector wrong_disk block_0
block-same = at_block (entry_bytes 132 1 18 2) (0 ∷ 37 ∷ two_records) exact_side (map_bytes 19 252)
    ∙ sym (at_block (entry_bytes 132 1 18 3) (0 ∷ 37 ∷ two_records) changed_side (map_bytes 18 253))

count-byte : (i : ℕ) → i ≡ 30 → IsCountByte (entry_bytes 132 1 18 3) i
unfolding entry_bytes
count-byte i e = rw e (lit≤ tt, inl refl)

entry-bytes : (i : ℕ) → i < 256 → IsCountByte (entry_bytes 132 1 18 3) i
    ⊎ (slice_index (entry_bytes 132 1 18 2) i ≡ slice_index (entry_bytes 132 1 18 3) i)
entry-bytes i low = elim (cases_eq i 30) [ inl e ↦ inl (count-byte i e) | inr ne ↦ inr (other-byte 3 2 i ne) ]

entry-same : SameButCounts wrong_disk right_disk directory_start
entry-same = rw (
  at_entry (entry_bytes 132 1 18 2) (0 ∷ 37 ∷ two_records) exact_side (map_bytes 19 252),
  at_entry (entry_bytes 132 1 18 3) (0 ∷ 37 ∷ two_records) changed_side (map_bytes 18 253),
) entry-bytes

header-same : header_of right_disk ≡ header_of wrong_disk
unfolding map_bytes
header-same = rw (
  at_map (entry_bytes 132 1 18 2) (0 ∷ 37 ∷ two_records) exact_side (map_bytes 19 252),
  at_map (entry_bytes 132 1 18 3) (0 ∷ 37 ∷ two_records) changed_side (map_bytes 18 253),
) refl

pub repaired : SameFiles wrong_disk right_disk (stock_layout 37 3) (stock_layout 37 2)
unfolding entry_bytes
repaired = record {
  directory = refl;
  files = rw block-same refl;
  entries = λ p c. elim (Contains-cases p directory_start [] c) [
    | inl e ↦ rw (← e) entry-same
    | inr d ↦ absurd (Contains-nil p d)
  ];
  header = header-same;
  elsewhere = λ p z d s. elim (same_or_other p block_0) [
    | inl e ↦ rw e block-same
    | inr x ↦
        let out : p ≢ directory_start = λ e. d (0, lit< tt, sym e) in
        let side : p ≢ block_1 = λ e. s (0, lit< tt, sym e) in
        at_other (entry_bytes 132 1 18 2) (0 ∷ 37 ∷ two_records) exact_side (map_bytes 19 252) p out x side z
        ∙ sym (at_other (entry_bytes 132 1 18 3) (0 ∷ 37 ∷ two_records) changed_side (map_bytes 18 253) p out x side
        z)
  ];
}

-- record 2 with a letter
unfoldable pub two_letters : List ℕ
two_letters = (65 ∷ replicate 17 0) ++ (66 ∷ replicate 17 0)

other-letters : ◌≡◌ {A = Sector} (0 ∷ 37 ∷ two_letters) (0 ∷ 37 ∷ two_records) → ⊥
unfolding two_letters two_records
other-letters e = let b : ◌≡◌ {A = ℕ} 66 255 = ap (λ (x : Sector). slice_index x 20) e in omega (arith, b)

-- what repair may not do: change a data block
pub changed_block : (n : ℕ) (s m : Sector)
    → ¬ (SameFiles (stock_disk 37 n two_records s m) (stock_disk 37 n two_letters s m) (stock_layout 37 n)
    (stock_layout 37 n))
changed_block n s m h =
    let same = h.elsewhere block_0 (lower_track block_0 map_place (lit< tt)).0
    (not-in block_0 directory_start [] (lower_track block_0 directory_start (lit< tt)).1 (Contains-nil block_0))
    (not-in block_0 block_1 [] (lower_sector block_0 block_1 (lit< tt)).1 (Contains-nil block_0)) in
    other-letters (sym (at_block (entry_bytes 132 1 18 n) (0 ∷ 37 ∷ two_letters) s m)
    ∙ (same ∙ at_block (entry_bytes 132 1 18 n) (0 ∷ 37 ∷ two_records) s m))

-- a creation: no entry before, this file after
pub created : (s m : Sector) → AddsFile (disk zero_sector (0 ∷ 37 ∷ two_records) s m) (stock_disk 37 2 two_records s m)
    (record { directory = directory_start ∷ []; files = [] }) (stock_layout 37 2) (stock_file 37 2)
created s m = record {
  before = [];
  after = [];
  had = refl;
  has = refl;
  added = Contains-here (stock_file 37 2) [];
  header = rw (
    at_map (entry_bytes 132 1 18 2) (0 ∷ 37 ∷ two_records) s m,
    at_map zero_sector (0 ∷ 37 ∷ two_records) s
        m,
  ) refl;
}

-- a request that names STOCK: a record with another letter, in the same block, is not of the rest
pub rest-same : (n : ℕ) (s m : Sector)
    → rest_of (stock_disk 37 n two_records s m) (stock_layout 37 n) 0 0 (stock_file 37 n)
    ≡ rest_of (stock_disk 37 n two_letters s m) (stock_layout 37 n) 0 0 (stock_file 37 n)
unfolding entry_bytes rest_of records joined record_count two_records two_letters
rest-same n s m = rw (
  at_map (entry_bytes 132 1 18 n) (0 ∷ 37 ∷ two_records) s m,
  at_map (entry_bytes 132 1 18 n) (0 ∷ 37 ∷ two_letters) s m,
) refl

-- but the disk's name, byte 144 of 18/0 and on, is of the rest
pub other-name : header_of (disk zero_sector [] [] (map_bytes 19 252)) ≢ header_of
    (disk zero_sector [] [] (set (map_bytes 19 252) 144 65))
unfolding map_bytes
other-name e =
    let h : ◌≡◌ {A = List ℕ} (take 4 (map_bytes 19 252) ++ drop 144 (map_bytes 19 252))
    (take 4 (map_bytes 19 252) ++ drop 144 (set (map_bytes 19 252) 144 65))
    = rw (at_map zero_sector [] [] (map_bytes 19 252), at_map zero_sector [] [] (set (map_bytes 19 252) 144 65)) at e in
    let b : ◌≡◌ {A = ℕ} 0 65 = ap (λ (x : List ℕ). slice_index x 4) h in
    omega (arith, b)

-- 14 records of 18 bytes in one block become 28 in two: record 15 begins with the old block's last two bytes
abbrev repeated : ℕ → List ℕ → List ℕ
repeated zero xs = []
repeated (suc n) xs = xs ++ repeated n xs

unfoldable pub full : List ℕ
full = repeated 14 (65 ∷ replicate 17 0) ++ (7 ∷ 7 ∷ [])

-- the old block, linked to 17/2, and the fresh one
unfoldable pub filled_last : Sector
filled_last = 17 ∷ 2 ∷ repeated 14 (65 ∷ replicate 17 0) ++ (255 ∷ 0 ∷ [])

unfoldable pub filled_fresh : Sector
filled_fresh = 0 ∷ 251 ∷ replicate 16 0 ++ (repeated 13 (empty_record 18) ++ replicate 4 0)

abbrev kept-row : ℕ → Bool
kept-row j = nat_eq (slice_index filled_last (2 + j)) (slice_index (0 ∷ 253 ∷ full) (2 + j))

abbrev fresh-row : ℕ → Bool
fresh-row j = nat_eq (slice_index filled_fresh (2 + j)) (filler 18 28 (254 + j))

kept-hold : agree_below kept-row (λ j. nat_lt j 252) 254 ≡ true
unfolding full filled_last
kept-hold = refl

fresh-hold : agree_below fresh-row (λ j. true) 254 ≡ true
unfolding filled_fresh
fresh-hold = refl

-- the last two bytes of the old block
tail-row : (j : ℕ) → j < 254 → 252 ≤ j → slice_index filled_last (2 + j) ≡ filler 18 28 (0 + j)
unfolding filled_last
tail-row j high low = elim (cases_eq j 252) [
  | inl e ↦ rw e refl
  | inr ne ↦ let e : j ≡ 253 = omega (arith, ne, high, low) in rw e refl
]

pub filled : (n : ℕ) (s m : Sector) → IsFilled (stock_disk 253 n full s m) (stock_file 253 n) [] block_0 14 28
    filled_last filled_fresh
unfolding entry_bytes record_count
filled n s m = record {
  positive = lit< tt;
  blocks = refl;
  records_there = refl;
  from_last = lit≤ tt;
  inside = lit≤ tt;
  within = lit≤ tt;
  kept = λ j high low. rw (at_block (entry_bytes 132 1 18 n) (0 ∷ 253 ∷ full) s m)
      (eqb-true _ _ (agree_below_at kept-row (λ j. nat_lt j 252) 254 j kept-hold high
      ∙ lt-ltb j 252 (omega (arith, low))));
  tail = λ j high low. tail-row j high (omega (arith, low));
  block = λ j high. eqb-true _ _ (agree_below_at fresh-row (λ j. true) 254 j fresh-hold high);
}
