-- A slot's fields, side sectors, records and tops by their numbers.
use Rattle.std.proofs.Common.{List, [], arith, drop, false, inl, inr, length, refl, replicate, take}
use Rattle.std.proofs.Common.{true, ℕ, ◌++◌, ◌∷◌, ◌≡◌}
use Rattle.std.specs.Prelude.{slice_range}
use Rattle.disk_layout.specs.Chain.{Names}
use Rattle.disk_layout.specs.Directory.{directory_start, is_used, slot_in, slots_in}
use Rattle.disk_layout.specs.Entries.{uncounted}
use Rattle.disk_layout.specs.Layout.{File, IsClosedType, count_field, is_rel, is_rel_type}
use Rattle.disk_layout.specs.Layout.{record_length, sides_for}
use Rattle.disk_layout.specs.Records.{empty_record, filler, pieces, record_count}
use Rattle.disk_layout.specs.Rest.{others, slot_name}
use Rattle.disk_layout.specs.Side.{padded, side_sector}
use Rattle.disk_layout.specs.declared.slot.Slot.{Slot}
use Rattle.disk_layout.proofs.Examples.{block_0, block_1, block_2}

-- the entry of a relative file STOCK: first block 17/0, first side sector 17/1, record length 18, two blocks
abbrev stock_name : List ℕ
stock_name = 83 ∷ 84 ∷ 79 ∷ 67 ∷ 75 ∷ []

abbrev stock_bytes : List ℕ
stock_bytes = (0 ∷ 255 ∷ 132 ∷ 17 ∷ 0 ∷ 83 ∷ 84 ∷ 79 ∷ 67 ∷ 75 ∷ [])
    ++ (replicate 11 160 ++ (17 ∷ 1 ∷ 18 ∷ 0 ∷ 0 ∷ 0 ∷ 0 ∷ 0 ∷ 0 ∷ 2 ∷ 0 ∷ []))

abbrev stock_slot : Slot
stock_slot = slot_in directory_start (stock_bytes ++ replicate 224 0) 0

pub stock-bytes : stock_slot.bytes ≡ stock_bytes
stock-bytes = refl

pub stock-used : is_used stock_slot ≡ true
stock-used = refl

pub stock-is_rel : is_rel stock_slot ≡ true
stock-is_rel = refl

pub stock-length : record_length stock_slot ≡ 18
stock-length = refl

pub stock-block : Names stock_slot.bytes 3 block_0
stock-block = (refl, refl)

pub stock-side : Names stock_slot.bytes 21 block_1
stock-side = (refl, refl)

pub stock-name : slice_range stock_slot.bytes 5 21 ≡ slot_name stock_name
stock-name = refl

pub stock-count : count_field stock_slot ≡ 2
stock-count = refl

-- the other seven slots of that sector are free
pub stock-alone : slots_in directory_start (stock_bytes ++ replicate 224 0) ≡ stock_slot ∷ drop 1
    (slots_in directory_start (stock_bytes ++ replicate 224 0))
unfolding slots_in
stock-alone = refl

-- a type that there isn't: closed, with low bits 5
pub type_133 : ¬ (IsClosedType 133)
type_133 (inl h) = omega (arith, h.1)
type_133 (inr h) = omega (arith, h.0)

-- a file of 120 blocks has one side sector, one of 121 has two, and one of 720 has six
pub sides_for-120 : sides_for 120 ≡ 1
sides_for-120 = refl

pub sides_for-121 : sides_for 121 ≡ 2
sides_for-121 = refl

pub sides_for-720 : sides_for 720 ≡ 6
sides_for-720 = refl

-- the side sector of that entry: it ends with index 17, and names 17/1 as side sector and 17/0 as block
pub stock-side_sector : take 18 (side_sector 0 (block_0 ∷ []) (block_1 ∷ []) 18) ≡ 0 ∷ 17 ∷ 0 ∷ 18 ∷ 17 ∷ 1 ∷ 0 ∷ 0 ∷ 0
    ∷ 0 ∷ 0 ∷ 0 ∷ 0 ∷ 0 ∷ 0 ∷ 0 ∷ 17 ∷ 0 ∷ []
unfolding side_sector padded
stock-side_sector = refl

pub stock-side_rest : drop 18 (side_sector 0 (block_0 ∷ []) (block_1 ∷ []) 18) ≡ replicate 238 0
unfolding side_sector padded
stock-side_rest = refl

-- with 121 blocks the first side sector links to the second, and both list both
pub first_of_two : take 8 (side_sector 0 (replicate 121 block_0) (block_1 ∷ block_2 ∷ []) 18) ≡ 17 ∷ 2 ∷ 0 ∷ 18 ∷ 17 ∷ 1
    ∷ 17 ∷ 2 ∷ []
unfolding side_sector padded
first_of_two = refl

pub second_of_two : take 8 (side_sector 1 (replicate 121 block_0) (block_1 ∷ block_2 ∷ []) 18) ≡ 0 ∷ 17 ∷ 1 ∷ 18 ∷ 17 ∷
    1 ∷ 17 ∷ 2 ∷ []
unfolding side_sector padded
second_of_two = refl

-- one block with last index 253 has 14 records of 18 bytes, one with 255 two of 127; indexes 0 and 1 both mean no byte
pub records-253 : record_count 1 253 18 ≡ 14
unfolding record_count
records-253 = refl

pub records-255 : record_count 1 255 127 ≡ 2
unfolding record_count
records-255 = refl

pub records-0 : record_count 1 0 1 ≡ 0
unfolding record_count
records-0 = refl

pub records-1 : record_count 1 1 1 ≡ 0
unfolding record_count
records-1 = refl

pub records-2 : record_count 1 2 1 ≡ 1
unfolding record_count
records-2 = refl

-- pieces: what is left over at the end is in none
pub pieces-2 : pieces 2 2 (1 ∷ 2 ∷ 3 ∷ 4 ∷ 5 ∷ []) ≡ (1 ∷ 2 ∷ []) ∷ (3 ∷ 4 ∷ []) ∷ []
pieces-2 = refl

pub empty-3 : empty_record 3 ≡ 255 ∷ 0 ∷ 0 ∷ []
empty-3 = refl

-- the bytes of empty records: FF where a record begins, 00 elsewhere and behind the last
pub filler-3 : filler 3 2 0 ∷ filler 3 2 1 ∷ filler 3 2 2 ∷ filler 3 2 3 ∷ filler 3 2 4 ∷ filler 3 2 5 ∷ filler 3 2 6 ∷
    [] ≡ 255 ∷ 0 ∷ 0 ∷ 255 ∷ 0 ∷ 0 ∷ 0 ∷ []
filler-3 = refl

-- the entry without its block count
pub stock-uncounted : length (uncounted stock_slot).bytes ≡ 30
stock-uncounted = refl

-- the files but those at places 0 and 2
pub others-0_2 : (f g h i : File) → others 0 2 0 (f ∷ g ∷ h ∷ i ∷ []) ≡ g ∷ i ∷ []
others-0_2 f g h i = refl

-- 84 and C4 are relative, 82 (a program) and 04 (an open relative file) are not
pub rel-types : is_rel_type 132 ∷ is_rel_type 196 ∷ is_rel_type 130 ∷ is_rel_type 4 ∷ [] ≡ true ∷ true ∷ false ∷ false ∷
    []
rel-types = refl
