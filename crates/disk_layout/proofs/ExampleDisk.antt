-- A disk with one small relative file, STOCK: its entry in 18/1, its block in 17/0, its side sector in 17/1, the map in
-- 18/0.
-- The four sectors are arguments, so that each example changes what it is about.
use Rattle.std.proofs.Common.{List, [], ap, arith, inl, inr, length, lit<, lit≤, refl, replicate, subst, sym}
use Rattle.std.proofs.Common.{ℕ, zero}
use Rattle.std.proofs.Common.{suc, ◌*◌, ◌+◌, ◌++◌, ◌<◌, ◌∙◌, ◌∷◌, ◌≡◌, ◌≢◌}
use Rattle.std.proofs.lemmas.Bool.{true≢false}
use Rattle.std.specs.Prelude.{Contains, Some, slice_get, slice_index}
use Rattle.d64_image.proofs.Images.{length-put, sector-put_other, sector-put_same}
use Rattle.d64_image.specs.Images.{Image, Sector, put, sector}
use Rattle.d64_image.specs.declared.place.Place.{Place}
use Rattle.disk_layout.proofs.Examples.{block_0, block_1, zero-long, zero_image}
use Rattle.disk_layout.proofs.lemmas.lists.Once.{Contains-cases, Contains-nil}
use Rattle.disk_layout.specs.Chain.{EachOnce, IsChain, Names}
use Rattle.disk_layout.specs.Directory.{directory_start, map_place, slot_in, slots_in, used_slots}
use Rattle.disk_layout.specs.Layout.{File, IsLayout, IsRelFile, IsSide, IsSound, Layout, owners}
use Rattle.disk_layout.specs.Records.{empty_record, joined, record_count, records}
use Rattle.disk_layout.specs.Side.{padded, side_sector}
use Rattle.disk_layout.specs.declared.slot.Slot.{Slot}

-- a directory sector whose one entry has this type, its first side sector on track 17, this record length and this
-- count
unfoldable pub entry_bytes : (kind side len count : ℕ) → Sector
entry_bytes kind side len count =
    (0 ∷ 255 ∷ kind ∷ 17 ∷ 0 ∷ 83 ∷ 84 ∷ 79 ∷ 67 ∷ 75 ∷ []) ++ (replicate 11 160
    ++ ((17 ∷ side ∷ len ∷ 0 ∷ 0 ∷ 0 ∷ 0 ∷ 0 ∷ 0 ∷ count ∷ 0 ∷ []) ++ replicate 224 0))

-- its slot
abbrev pub entry_slot : (kind side len count : ℕ) → Slot
entry_slot kind side len count = slot_in directory_start (entry_bytes kind side len count) 0

-- the disk
unfoldable pub disk : (entry block side map : Sector) → Image
disk entry block side map = put (put (put (put zero_image map_place map) block_1 side) block_0 block) directory_start
    entry

-- places on two tracks, or two sectors, are two
pub lower_track : (p q : Place) → p.track < q.track → (p ≢ q) × (q ≢ p)
lower_track p q h = (
  λ e. let s : p.track ≡ q.track = ap (λ (x : Place). x.track) e in omega (arith, h, s),
  λ e. let s : q.track ≡ p.track = ap (λ (x : Place). x.track) e in omega (arith, h, s),
)

pub lower_sector : (p q : Place) → p.sector < q.sector → (p ≢ q) × (q ≢ p)
lower_sector p q h = (
  λ e. let s : p.sector ≡ q.sector = ap (λ (x : Place). x.sector) e in omega (arith, h, s),
  λ e. let s : q.sector ≡ p.sector = ap (λ (x : Place). x.sector) e in omega (arith, h, s),
)

-- what stands where
module _ (e b s m : Sector) where
  long-1 : length (put zero_image map_place m) ≡ 683
  long-1 = length-put zero_image map_place m ∙ zero-long

  long-2 : length (put (put zero_image map_place m) block_1 s) ≡ 683
  long-2 = length-put _ block_1 s ∙ long-1

  long-3 : length (put (put (put zero_image map_place m) block_1 s) block_0 b) ≡ 683
  long-3 = length-put _ block_0 b ∙ long-2

  pub at_entry : sector (disk e b s m) directory_start ≡ e
  unfolding disk
  at_entry = sector-put_same _ directory_start e long-3

  pub at_block : sector (disk e b s m) block_0 ≡ b
  unfolding disk
  at_block = sector-put_other _ directory_start block_0 e (lower_track block_0 directory_start (lit< tt)).1
      ∙ sector-put_same _ block_0 b long-2

  pub at_side : sector (disk e b s m) block_1 ≡ s
  unfolding disk
  at_side =
      sector-put_other _ directory_start block_1 e (lower_track block_1 directory_start (lit< tt)).1
      ∙ (sector-put_other _ block_0 block_1 b (lower_sector block_0 block_1 (lit< tt)).0
      ∙ sector-put_same _ block_1 s long-1)

  pub at_map : sector (disk e b s m) map_place ≡ m
  unfolding disk
  at_map =
      sector-put_other _ directory_start map_place e (lower_sector map_place directory_start (lit< tt)).1
      ∙ (sector-put_other _ block_0 map_place b (lower_track block_0 map_place (lit< tt)).0
      ∙ (sector-put_other _ block_1 map_place s (lower_track block_1 map_place (lit< tt)).0
      ∙ sector-put_same _ map_place m zero-long))

  -- all else is the image of zeros
  pub at_other : (p : Place) → p ≢ directory_start → p ≢ block_0 → p ≢ block_1 → p ≢ map_place
      → sector (disk e b s m) p ≡ sector zero_image p
  unfolding disk
  at_other p d x y z =
      sector-put_other _ directory_start p e (λ h. d (sym h))
      ∙ (sector-put_other _ block_0 p b (λ h. x (sym h))
      ∙ (sector-put_other _ block_1 p s (λ h. y (sym h))
      ∙ sector-put_other _ map_place p m (λ h. z (sym h))))

-- a list of one place
pub only : (P : ℕ → Place → Type 0) (p : Place) → P 0 p → (k : ℕ) (q : Place) → slice_get (p ∷ []) k ≡ Some q → P k q
only P p h zero q e = let s : p ≡ q = cc in subst (P 0) s h
only P p h (suc k) q e = absurd (cc)

pub not-in : (x y : Place) (ys : List Place) → y ≢ x → ¬ (Contains ys x) → ¬ (Contains (y ∷ ys) x)
not-in x y ys ne out c = elim (Contains-cases x y ys c) [ inl e ↦ ne e | inr d ↦ out d ]

-- the file, with the index of its last used byte and its entry's count
abbrev pub stock_file : (last count : ℕ) → File
stock_file last count = record {
  slot = entry_slot 132 1 18 count;
  blocks = block_0 ∷ [];
  last = last;
  sides = block_1 ∷ [];
}

abbrev pub stock_layout : (last count : ℕ) → Layout
stock_layout last count = record { directory = directory_start ∷ []; files = stock_file last count ∷ [] }

-- the bytes of a side sector that a sound image asks of this file
pub record IsStockSide (s : Sector) : Type 0 where
  pub number : slice_index s 2 ≡ 0
  pub length_byte : slice_index s 3 ≡ 18
  pub listed : Names s 4 block_1
  pub pointer : Names s 16 block_0

-- its exact bytes are such
unfoldable pub exact_side : Sector
exact_side = side_sector 0 (block_0 ∷ []) (block_1 ∷ []) 18

pub exact-side_is : IsStockSide exact_side
unfolding exact_side side_sector padded
exact-side_is = record { number = refl; length_byte = refl; listed = (refl, refl); pointer = (refl, refl) }

-- its block ends with the index in its second byte
pub one-chain : (e : Sector) (u : ℕ) (rest s m : Sector) → IsChain (disk e (0 ∷ u ∷ rest) s m) block_0 (block_0 ∷ []) u
one-chain e u rest s m = record {
  front = [];
  last = block_0;
  places = refl;
  leads = refl;
  ends = rw (at_block e (0 ∷ u ∷ rest) s m) (refl, refl);
  once = (Contains-nil block_0, tt);
}

-- no place has two owners
once-each : EachOnce (map_place ∷ directory_start ∷ block_0 ∷ block_1 ∷ [])
once-each =
    let map-apart : ¬ (Contains (directory_start ∷ block_0 ∷ block_1 ∷ []) map_place) =
    not-in map_place directory_start (block_0 ∷ block_1 ∷ []) (lower_sector map_place directory_start (lit< tt)).1
    (not-in map_place block_0 (block_1 ∷ []) (lower_track block_0 map_place (lit< tt)).0
    (not-in map_place block_1 [] (lower_track block_1 map_place (lit< tt)).0 (Contains-nil map_place))) in
    let directory-apart : ¬ (Contains (block_0 ∷ block_1 ∷ []) directory_start) =
    not-in directory_start block_0 (block_1 ∷ []) (lower_track block_0 directory_start (lit< tt)).0
    (not-in directory_start block_1 [] (lower_track block_1 directory_start (lit< tt)).0
    (Contains-nil directory_start)) in
    let block-apart : ¬ (Contains (block_1 ∷ []) block_0) =
    not-in block_0 block_1 [] (lower_sector block_0 block_1 (lit< tt)).1 (Contains-nil block_0) in
    (map-apart, (directory-apart, (block-apart, (Contains-nil block_1, tt))))

-- the disk whose block ends with index u and whose entry counts n
abbrev pub stock_disk : (u n : ℕ) (rest side map : Sector) → Image
stock_disk u n rest side map = disk (entry_bytes 132 1 18 n) (0 ∷ u ∷ rest) side map

module _ (u n : ℕ) (rest s m : Sector) (side : IsStockSide s) where
  sides_at : sector (stock_disk u n rest s m) block_1 ≡ s
  sides_at = at_side (entry_bytes 132 1 18 n) (0 ∷ u ∷ rest) s m

  side-is : IsSide (stock_disk u n rest s m) (stock_file u n) 0 block_1
  unfolding entry_bytes
  side-is = record {
    number = rw sides_at side.number;
    length_byte = rw sides_at side.length_byte;
    sides = rw sides_at (only (λ k q. Names s (4 + 2 * k) q) block_1 side.listed);
    link = λ q e. absurd (cc);
    pointers = λ k q h e.
        let z : 120 * 0 + k ≡ k = omega arith in
        rw sides_at (only (λ k q. Names s (16 + 2 * k) q) block_0 side.pointer k q
        (subst (λ j. slice_get (block_0 ∷ []) j ≡ Some q) z e));
  }

  pub stock-is_rel_file : IsRelFile (stock_disk u n rest s m) (stock_file u n)
  unfolding entry_bytes
  stock-is_rel_file = record {
    chain = (block_0, (refl, refl), one-chain (entry_bytes 132 1 18 n) u rest s m);
    length_low = lit≤ tt;
    length_high = lit≤ tt;
    count = refl;
    first_side = only (λ k q. Names (entry_slot 132 1 18 n).bytes 21 q) block_1 (refl, refl) 0;
    sides = only (IsSide (stock_disk u n rest s m) (stock_file u n)) block_1 side-is;
  }

  slots : entry_slot 132 1 18 n ∷ [] ≡ used_slots (stock_disk u n rest s m) (directory_start ∷ [])
  unfolding entry_bytes used_slots slots_in
  slots = rw (at_entry (entry_bytes 132 1 18 n) (0 ∷ u ∷ rest) s m) refl

  -- the whole layout: the directory's sector, and this file
  pub stock-is_layout : IsLayout (stock_disk u n rest s m) (stock_layout u n)
  unfolding entry_bytes owners
  stock-is_layout = record {
    directory = record {
      last = 255;
      chain = record {
        front = [];
        last = directory_start;
        places = refl;
        leads = refl;
        ends = rw (at_entry (entry_bytes 132 1 18 n) (0 ∷ u ∷ rest) s m) (refl, refl);
        once = (Contains-nil directory_start, tt);
      };
      on_track = (refl, tt);
      not_map = not-in map_place directory_start [] (lower_sector map_place directory_start (lit< tt)).1
          (Contains-nil map_place);
      slots = slots;
    };
    files = (
      record {
        closed = inl (lit≤ tt, lit≤ tt);
        rel = λ _. stock-is_rel_file;
        empty = λ plain. absurd (true≢false plain);
        plain = λ plain. absurd (true≢false plain);
      },
      tt,
    );
    once = once-each;
  }

pub stock-is_sound : (u n : ℕ) (rest s m : Sector) → IsStockSide s → IsSound (stock_disk u n rest s m)
stock-is_sound u n rest s m side = (stock_layout u n, stock-is_layout u n rest s m side)

-- record 1 begins with a letter, and record 2 is empty
unfoldable pub two_records : List ℕ
two_records = (65 ∷ replicate 17 0) ++ (255 ∷ replicate 17 0)

-- with last index 37 the block has both, and with 19 the first alone
pub stock-records-2 : (n : ℕ) (s m : Sector) → records (stock_disk 37 n two_records s m) (stock_file 37 n)
    ≡ (65 ∷ replicate 17 0) ∷ empty_record 18 ∷ []
unfolding entry_bytes records joined record_count two_records
stock-records-2 n s m = rw (at_block (entry_bytes 132 1 18 n) (0 ∷ 37 ∷ two_records) s m) refl

pub stock-records-1 : (n : ℕ) (s m : Sector) → records (stock_disk 19 n two_records s m) (stock_file 19 n)
    ≡ (65 ∷ replicate 17 0) ∷ []
unfolding entry_bytes records joined record_count two_records
stock-records-1 n s m = rw (at_block (entry_bytes 132 1 18 n) (0 ∷ 19 ∷ two_records) s m) refl
