-- One disk is clean; with one byte changed it has each fault of entries, owners, side sectors, counts and map.
use Rattle.std.proofs.Common.{[], ap, arith, inl, inr, lit<, lit≤, refl, take, ℕ, ◌++◌, ◌≤◌, ◌∷◌, ◌≡◌, ◌≢◌}
use Rattle.std.specs.Prelude.{Contains, slice_index}
use Rattle.d64_image.proofs.Places.{place_at-none}
use Rattle.d64_image.specs.Images.{Sector}
use Rattle.d64_image.specs.declared.place.Place.{Place}
use Rattle.disk_layout.proofs.ExampleDisk.{IsStockSide, at_entry, at_map, at_side, disk, entry_bytes}
use Rattle.disk_layout.proofs.ExampleDisk.{entry_slot}
use Rattle.disk_layout.proofs.ExampleDisk.{exact-side_is, exact_side, lower_sector, one-chain, only}
use Rattle.disk_layout.proofs.ExampleDisk.{stock-is_layout}
use Rattle.disk_layout.proofs.ExampleDisk.{stock_disk, stock_file, stock_layout}
use Rattle.disk_layout.proofs.ExampleMap.{block_0-free, count-18, map-is, map_bytes}
use Rattle.disk_layout.proofs.Examples.{block_0, block_1}
use Rattle.disk_layout.proofs.ExampleSlots.{type_133}
use Rattle.disk_layout.proofs.lemmas.chains.Names.{named-none}
use Rattle.disk_layout.proofs.lemmas.layouts.Twice.{told-unsound}
use Rattle.disk_layout.proofs.lemmas.layouts.Unclean.{told-unclean}
use Rattle.disk_layout.proofs.lemmas.lists.Once.{Contains-here, Contains-nil}
use Rattle.disk_layout.specs.Clean.{IsClean}
use Rattle.disk_layout.specs.Directory.{directory_start, map_place, slot_in, slots_in}
use Rattle.disk_layout.specs.Fault.{Holds, HoldsOfClean, IsClosed, IsSlot, length_byte, nowhere}
use Rattle.disk_layout.specs.Fault.Owner.{blocks_of, sides_of}
use Rattle.disk_layout.specs.Layout.{IsSound, owners}
use Rattle.disk_layout.specs.Number.{number_of}
use Rattle.disk_layout.specs.Side.{padded, side_sector}
use Rattle.disk_layout.specs.declared.faults.Fault.TheVariants.{BadLength, BadLink, BadSide, BadType}
use Rattle.disk_layout.specs.declared.faults.Fault.TheVariants.{CountWrong}
use Rattle.disk_layout.specs.declared.faults.Fault.TheVariants.{Device, MapWrong, OwnedTwice, Unclosed}

-- with exact side sector, count and map the disk is clean
pub stock-is_clean : (rest : Sector) → IsClean (stock_disk 37 2 rest exact_side (map_bytes 19 252))
unfolding entry_bytes exact_side owners
stock-is_clean rest = (
  stock_layout 37 2,
  record {
    layout = stock-is_layout 37 2 rest exact_side (map_bytes 19 252) exact-side_is;
    files = (
      λ _. record {
        sides =
            only _ block_1 (at_side (entry_bytes 132 1 18 2) (0 ∷ 37 ∷ rest) exact_side (map_bytes 19 252));
        count = refl;
      },
      tt,
    );
    map = rw (at_map (entry_bytes 132 1 18 2) (0 ∷ 37 ∷ rest) exact_side (map_bytes 19 252)) map-is;
  },
)

first_slot : (p : Place) (bytes : Sector) → Contains (slots_in p bytes) (slot_in p bytes 0)
unfolding slots_in
first_slot p bytes = (0, lit< tt, refl)

-- the one entry, whatever the other sectors hold
module _ (kind side len n : ℕ) (b s m : Sector) where
  slot-there : IsSlot (disk (entry_bytes kind side len n) b s m) directory_start (entry_slot kind side len n)
  slot-there = record {
    directory = record {
      before = [];
      visits = (refl, (Contains-nil directory_start, tt));
      places = ((refl, (lower_sector map_place directory_start (lit< tt)).1), tt);
    };
    slot = rw (at_entry (entry_bytes kind side len n) b s m) (first_slot directory_start (entry_bytes kind side len n));
  }

  closed-there : 128 ≤ kind → IsClosed (disk (entry_bytes kind side len n) b s m) directory_start
      (entry_slot kind side len n)
  unfolding entry_bytes
  closed-there h = record { slot = slot-there; closed = h }

-- type 133: closed, with low bits 5
pub bad_type : (b s m : Sector) → Holds nowhere (disk (entry_bytes 133 1 18 2) b s m) (BadType directory_start)
unfolding entry_bytes
bad_type b s m = (entry_slot 133 1 18 2, closed-there 133 1 18 2 b s m (lit≤ tt), type_133)

-- type 4: relative, and not closed
pub unclosed : (b s m : Sector) → Holds nowhere (disk (entry_bytes 4 1 18 2) b s m) (Unclosed directory_start)
unfolding entry_bytes
unclosed b s m = (entry_slot 4 1 18 2, slot-there 4 1 18 2 b s m, λ e. omega (arith, e), lit< tt)

-- record lengths 0 and 255
pub bad_length-0 : (b s m : Sector) → Holds nowhere (disk (entry_bytes 132 1 0 2) b s m) (BadLength directory_start)
unfolding entry_bytes
bad_length-0 b s m = (entry_slot 132 1 0 2, closed-there 132 1 0 2 b s m (lit≤ tt), refl, inl refl)

pub bad_length-255 : (b s m : Sector) → Holds nowhere (disk (entry_bytes 132 1 255 2) b s m) (BadLength directory_start)
unfolding entry_bytes
bad_length-255 b s m = (entry_slot 132 1 255 2, closed-there 132 1 255 2 b s m (lit≤ tt), refl, inr refl)

-- the entry names sector 21 of track 17 as its side sector, which is no place
pub no_side : (b s m : Sector) → Holds nowhere (disk (entry_bytes 132 21 18 2) b s m) (BadSide directory_start)
unfolding entry_bytes
no_side b s m = inl (
  entry_slot 132 21 18 2,
  closed-there 132 21 18 2 b s m (lit≤ tt),
  refl,
  named-none (entry_slot 132 21 18 2).bytes 21 (place_at-none 17 21 (omega arith)),
)

-- 17/0 is the file's block, and is named as its side sector as well
pub owned_twice : (rest s m : Sector) → Holds nowhere (disk (entry_bytes 132 0 18 2) (0 ∷ 37 ∷ rest) s m)
    (OwnedTwice block_0)
unfolding entry_bytes
owned_twice rest s m = inl (
  blocks_of (entry_slot 132 0 18 2),
  sides_of (entry_slot 132 0 18 2),
  λ e. cc,
  (
    directory_start,
    closed-there 132 0 18 2 (0 ∷ 37 ∷ rest) s m (lit≤ tt),
    record {
      first = block_0;
      named = (refl, refl);
      before = [];
      visits = (refl, (Contains-nil block_0, tt));
    },
  ),
  (
    directory_start,
    closed-there 132 0 18 2 (0 ∷ 37 ∷ rest) s m (lit≤ tt),
    refl,
    block_0 ∷ [],
    0,
    record {
      first_block = block_0;
      named_block = (refl, refl);
      last = 37;
      chain = one-chain (entry_bytes 132 0 18 2) 37 rest s m;
      wanted = lit< tt;
      first = block_0;
      named = (refl, refl);
      before = [];
      number = refl;
      leads = refl;
    },
  ),
)

-- a side sector whose record length isn't the entry's
pub bad_side : (rest m : Sector)
    → Holds nowhere (stock_disk 37 2 rest (side_sector 0 (block_0 ∷ []) (block_1 ∷ []) 19) m) (BadSide block_1)
unfolding entry_bytes side_sector padded
bad_side rest m =
    let s : Sector = side_sector 0 (block_0 ∷ []) (block_1 ∷ []) 19 in
    inr (
      directory_start,
      entry_slot 132 1 18 2,
      closed-there 132 1 18 2 (0 ∷ 37 ∷ rest) s m (lit≤ tt),
      refl,
      block_0 ∷ [],
      0,
      record {
        first_block = block_0;
        named_block = (refl, refl);
        last = 37;
        chain = one-chain (entry_bytes 132 1 18 2) 37 rest s m;
        wanted = lit< tt;
        first = block_1;
        named = (refl, refl);
        before = [];
        number = refl;
        leads = refl;
      },
      length_byte (rw (at_side (entry_bytes 132 1 18 2) (0 ∷ 37 ∷ rest) s m) (λ e. omega (arith, e))),
    )

-- what a check tells as well: one byte behind the pointers of the side sector isn't 0
unfoldable pub changed_side : Sector
changed_side = take 255 exact_side ++ 1 ∷ []

pub changed-side : IsStockSide changed_side
unfolding changed_side exact_side side_sector padded
changed-side = record { number = refl; length_byte = refl; listed = (refl, refl); pointer = (refl, refl) }

other-side : changed_side ≢ exact_side
unfolding changed_side exact_side side_sector padded
other-side e = let s : ◌≡◌ {A = ℕ} 1 0 = ap (λ (x : Sector). slice_index x 255) e in omega (arith, s)

pub inexact_side : (rest m : Sector) → HoldsOfClean nowhere (stock_disk 37 2 rest changed_side m) (BadSide block_1)
unfolding entry_bytes exact_side
inexact_side rest m = inr (
  stock_layout 37 2,
  stock-is_layout 37 2 rest changed_side m changed-side,
  stock_file 37 2,
  Contains-here (stock_file 37 2) [],
  refl,
  0,
  refl,
  rw (at_side (entry_bytes 132 1 18 2) (0 ∷ 37 ∷ rest) changed_side m) other-side,
)

-- the entry counts three blocks in place of two
pub count_wrong : (rest m : Sector) → HoldsOfClean nowhere (stock_disk 37 3 rest exact_side m)
    (CountWrong directory_start)
unfolding entry_bytes
count_wrong rest m = (
  stock_layout 37 3,
  stock-is_layout 37 3 rest exact_side m exact-side_is,
  stock_file 37 3,
  record { file = Contains-here (stock_file 37 3) []; rel = refl; slot = refl },
  λ e. omega (arith, e),
)

-- the map has 17/0 as free
pub map_wrong : (rest : Sector) → HoldsOfClean nowhere (stock_disk 37 2 rest exact_side (map_bytes 19 253))
    (MapWrong block_0)
unfolding owners
map_wrong rest = (
  stock_layout 37 2,
  stock-is_layout 37 2 rest exact_side (map_bytes 19 253) exact-side_is,
  inl (rw (at_map (entry_bytes 132 1 18 2) (0 ∷ 37 ∷ rest) exact_side (map_bytes 19 253))
      (λ iff. iff.0 block_0-free (2, lit< tt, refl))),
)

-- the map counts 18 free sectors on track 17, where it has 19
pub map_count_wrong : (rest : Sector) → HoldsOfClean nowhere (stock_disk 37 2 rest exact_side (map_bytes 18 252))
    (MapWrong map_place)
map_count_wrong rest = (
  stock_layout 37 2,
  stock-is_layout 37 2 rest exact_side (map_bytes 18 252) exact-side_is,
  inr (
    refl,
    (
      17,
      lit≤ tt,
      lit≤ tt,
      rw (at_map (entry_bytes 132 1 18 2) (0 ∷ 37 ∷ rest) exact_side (map_bytes 18 252))
          count-18,
    ),
  ),
)

-- so the disk isn't sound, or isn't clean
pub bad_type-unsound : (b s m : Sector) → ¬ (IsSound (disk (entry_bytes 133 1 18 2) b s m))
bad_type-unsound b s m = told-unsound (disk (entry_bytes 133 1 18 2) b s m) (BadType directory_start) (bad_type b s m)

pub count_wrong-unclean : (rest m : Sector) → ¬ (IsClean (stock_disk 37 3 rest exact_side m))
count_wrong-unclean rest m = told-unclean (stock_disk 37 3 rest exact_side m) (CountWrong directory_start)
    (count_wrong rest m)

pub numbers : (p : Place) → (number_of (BadLink p) ≡ 1) × (number_of (MapWrong p) ≡ 9) × (number_of (Device p) ≡ 10)
numbers p = (refl, refl, refl)
