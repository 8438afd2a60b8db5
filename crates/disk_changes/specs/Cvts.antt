-- What a CVT has after its first 254 bytes, and how its lengths are counted (CVT: c1541's geosread, cbmconvert). How much may stand
-- after its end is our own.
use Rattle.std.specs.Prelude.{ℕ, zero, suc, ◌+◌, ◌*◌, ◌-◌, ◌/◌, ◌&&◌, ◌||◌, Bool, List, None, Option, Some, drop, false, if◌then◌else◌, length}
use Rattle.std.specs.Prelude.{nat_eq, nat_le, nat_lt, slice_index, slice_range, true}
use Rattle.std.specs.List.{starts_with}
use Rattle.geos_files.specs.Cvt.{signature}

-- byte 21 is the structure, which is byte 23 of the entry: 1 for records
abbrev pub has_records : List ℕ → Bool
has_records bytes = nat_eq (slice_index bytes 21) 1

-- how many blocks the first k records have: from byte 508 on there are two bytes for each record, and the first is this number
unfoldable pub record_blocks : List ℕ → (k : ℕ) → ℕ
record_blocks bytes zero = 0
record_blocks bytes (suc k) = record_blocks bytes k + slice_index bytes (508 + 2 * k)

-- the second byte of the last of them that has a block: the index of its last byte. 255 if none has one
unfoldable pub last_index : List ℕ → (k : ℕ) → ℕ
last_index bytes zero = 255
last_index bytes (suc k) =
    if nat_eq (slice_index bytes (508 + 2 * k)) 0 then last_index bytes k else slice_index bytes (509 + 2 * k)

-- how many blocks the entry counts: the info block, and those of the data
abbrev pub entry_blocks : List ℕ → ℕ
entry_blocks bytes = slice_index bytes 28 + 256 * slice_index bytes 29

-- where the last record ends: after the first 254 bytes, the info block, the bytes for 127 records, and their blocks, the last one up to
-- its last index
abbrev pub records_end : List ℕ → ℕ
records_end bytes = 507 + 254 * record_blocks bytes 127 + last_index bytes 127

-- records that end there, the last one with this last index, are in so many bytes, and fewer than a block's stand after them
abbrev pub has_all : (size last end : ℕ) → Bool
has_all size last end = nat_le 2 last && (nat_le end size && nat_lt size (end + 254))

-- all bytes of the records are there
abbrev pub has_all_records : List ℕ → Bool
has_all_records bytes =
    nat_le 762 (length bytes) && has_all (length bytes) (last_index bytes 127) (records_end bytes)

-- one chain has no fewer blocks than the entry counts
abbrev pub has_all_of_chain : List ℕ → Bool
has_all_of_chain bytes = nat_le (entry_blocks bytes) (1 + (length bytes - 508 + 253) / 254)

abbrev pub is_signed : List ℕ → Bool
is_signed bytes = starts_with nat_eq (drop 30 bytes) (signature true) || starts_with nat_eq (drop 30 bytes) (signature false)

-- the entry is that of a closed SEQ, PRG or USR, locked or not, with a structure and a type that GEOS has
abbrev pub has_plain_type : List ℕ → Bool
has_plain_type bytes = (nat_le 129 (slice_index bytes 0) && nat_le (slice_index bytes 0) 131)
    || (nat_le 193 (slice_index bytes 0) && nat_le (slice_index bytes 0) 195)

abbrev pub has_geos_type : List ℕ → Bool
has_geos_type bytes =
    nat_le (slice_index bytes 21) 1 && (nat_le 1 (slice_index bytes 22) && nat_le (slice_index bytes 22) 15)

-- they begin like the CVT of such a file, and go on after the info block
abbrev pub begins_cvt : List ℕ → Bool
begins_cvt bytes =
    nat_lt 508 (length bytes) && (is_signed bytes && (has_plain_type bytes && has_geos_type bytes))

-- what comes after the first 254 bytes, if no block is missing
abbrev pub records_content : List ℕ → Option (List ℕ)
records_content bytes = if has_all_records bytes then Some (slice_range bytes 254 (records_end bytes)) else None

abbrev pub chain_content : List ℕ → Option (List ℕ)
chain_content bytes = if has_all_of_chain bytes then Some (slice_range bytes 254 (length bytes)) else None

-- what comes after the first 254 bytes of a whole CVT
abbrev pub content_of : List ℕ → Option (List ℕ)
content_of bytes =
    if begins_cvt bytes then (if has_records bytes then records_content bytes else chain_content bytes) else None
