-- How far a relative file grows for a record, what that takes, and how much is written for it (1541 User's Guide,
-- relative
-- files; the order of writes and the limits are our own).
use Rattle.std.specs.Prelude.{ℕ, ◌+◌, ◌-◌, ◌*◌, ◌/◌, ◌<◌, ◌⊎◌, if◌then◌else◌, length, nat_eq, nat_le, nat_lt}
use Rattle.d64_image.specs.Images.{Image, sector}
use Rattle.disk_layout.specs.Directory.{map_place}
use Rattle.disk_layout.specs.Layout.{File, record_length, sides_for}
use Rattle.disk_layout.specs.Records.{record_count}
use Rattle.disk_layout.specs.View.{blocks_free}

-- how many records the file has
abbrev pub records_had : File → ℕ
records_had f = record_count (length f.blocks) f.last (record_length f.slot)

-- how many data blocks r records of L bytes need: 656 for 9256 of 18 bytes
abbrev pub blocks_for : ℕ → ℕ → ℕ
blocks_for L r = (r * L + 253) / 254

-- how many whole records of L bytes n blocks hold: 14 of 18 bytes in one block
abbrev pub full : ℕ → ℕ → ℕ
full L n = 254 * n / L

-- how many empty records a file of c records of L bytes gets, so that record r is there: none if it is there already;
-- otherwise all that fit into the blocks that r records need
abbrev pub added : ℕ → ℕ → ℕ → ℕ
added L c r = if nat_le r c then 0 else (full L (blocks_for L r) - c)

-- record r is not there, and cannot be
abbrev pub IsTooLarge : File → ℕ → Type 0
IsTooLarge f r = (records_had f < r) × ((720 < blocks_for (record_length f.slot) r) ⊎ (65535 < r))

-- how many data blocks and side sectors a file of n data blocks takes until it has w
abbrev pub needed : ℕ → ℕ → ℕ
needed n w = (w - n) + (sides_for w - sides_for n)

-- record r is not there, and the free sectors outside track 18 do not suffice for it
abbrev pub IsFull : Image → File → ℕ → Type 0
IsFull img f r = (records_had f < r)
    × (blocks_free (sector img map_place) < needed (length f.blocks) (blocks_for (record_length f.slot) r))

-- how many blocks are written to fill the file up: none if all whole records that fit are there, two if the first new
-- one begins in the block before the last, otherwise one
abbrev pub fill_writes : File → ℕ
fill_writes f =
    if nat_eq (records_had f) (full (record_length f.slot) (length f.blocks)) then 0 else
    (if nat_lt (records_had f * record_length f.slot) (254 * (length f.blocks - 1)) then 2 else 1)

-- how many older side sectors are written while a file gets n data blocks: 1 with its second side sector, 2 with its
-- third ...
abbrev pub side_writes : ℕ → ℕ
side_writes n = sides_for n * (sides_for n - 1) / 2

-- how many sectors are written while the file goes from n data blocks to w: five for each, and the older side sectors
abbrev pub run_writes : ℕ → ℕ → ℕ
run_writes n w = 5 * (w - n) + (side_writes w - side_writes n)

-- how many sectors are written for growth to record r: none if it is there
abbrev pub growth_writes : File → ℕ → ℕ
growth_writes f r = if nat_le r (records_had f) then 0 else (fill_writes f + run_writes (length f.blocks)
    (blocks_for (record_length f.slot) r))
