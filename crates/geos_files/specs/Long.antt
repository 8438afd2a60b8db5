-- Files of GEOS with sectors past track 35, of images that have those tracks (GEOS: VLIR). What counts as a whole file is our own.
use Rattle.std.specs.Prelude.{ℕ, zero, suc, ◌+◌, ◌*◌, ◌-◌, ◌&&◌, ◌++◌, Bool, false, true, List, [], ◌∷◌, None, Option, Some}
use Rattle.std.specs.Prelude.{if◌then◌else◌, length, min, nat_eq, nat_le, slice_get, slice_index, take}
use Rattle.std.specs.List.{list_any}
use Rattle.disk_layout.specs.declared.slot.Slot.{Slot}
use Rattle.geos_files.specs.Entries.{is_like_geos}
use Rattle.long_chains.specs.Chains.{byte_in, chain_of, has_number}
use Rattle.long_chains.specs.Sectors.{has_more_tracks, sector_at}

-- these, if it is said that all was taken
abbrev pub if_taken : Bool → List ℕ × List ℕ → Option (List ℕ × List ℕ)
if_taken true parts = Some parts
if_taken false parts = None

-- a chain, if it comes to its end after at most so many sectors
abbrev pub at_most : (most : ℕ) → Option (List ℕ) → Option (List ℕ)
at_most most None = None
at_most most (Some ns) = if nat_le (length ns) most then Some ns else None

-- the sectors of the record whose pair in the record block is this: none if the track is 0
abbrev pub record_chain : (image : List ℕ) → (track sector : ℕ) → Option (List ℕ)
record_chain image t s = if nat_eq t 0 then Some [] else chain_of image t s

-- the index of the last byte in the last one of these sectors; without a sector the second byte of the pair
abbrev pub end_in : (image : List ℕ) → (second : ℕ) → Option ℕ → ℕ
end_in image second None = second
end_in image second (Some n) = byte_in image n 1

abbrev pub last_index : (image : List ℕ) → (second : ℕ) → List ℕ → ℕ
last_index image second ns = end_in image second (slice_get ns (length ns - 1))

-- one record more of a file that has these sectors and pairs
abbrev pub with_record : (image : List ℕ) → (second : ℕ) → List ℕ × List ℕ → Option (List ℕ) → Option (List ℕ × List ℕ)
with_record image second had None = None
with_record image second had (Some ns) = Some (had.0 ++ ns, had.1 ++ length ns ∷ last_index image second ns ∷ [])

-- The same of record k, from 0, of a record block. A record has at most 255 sectors, since CVT counts them in a byte. A file has at most
-- 800 of the 802 sectors of an image: the map and the directory have the others.
abbrev pub with_nth : (image : List ℕ) → (block k : ℕ) → Option (List ℕ × List ℕ) → Option (List ℕ × List ℕ)
with_nth image b k None = None
with_nth image b k (Some had) =
    with_record image (byte_in image b (2 * k + 3)) had
    (at_most (min 255 (800 - length had.0)) (record_chain image (byte_in image b (2 * k + 2)) (byte_in image b (2 * k + 3))))

-- the first k records of a record block, after sectors that the file has, if the chains of all come to their ends
unfoldable pub records_to : (image : List ℕ) → (block : ℕ) → (had : List ℕ) → (k : ℕ) → Option (List ℕ × List ℕ)
records_to image b had zero = Some (had, [])
records_to image b had (suc k) = with_nth image b k (records_to image b had k)

-- these sectors, and after them those of a chain
abbrev pub behind : (had : List ℕ) → Option (List ℕ) → Option (List ℕ)
behind had None = None
behind had (Some ns) = Some (had ++ ns)

-- a file with these sectors, and no records
abbrev pub without_pairs : Option (List ℕ) → Option (List ℕ × List ℕ)
without_pairs None = None
without_pairs (Some ns) = Some (ns, [])

-- the sectors of a file of GEOS, as its info block, its record block if it has one, and those of its chains, and two bytes for each of its
-- records; by its info block and its first block, if the image has these
abbrev pub parts_of : (image : List ℕ) → Slot → (has_records : Bool) → (info first : Option ℕ) → Option (List ℕ × List ℕ)
parts_of image s has_records None first = None
parts_of image s has_records (Some info) None = None
parts_of image s true (Some info) (Some first) = records_to image first (info ∷ first ∷ []) 127
parts_of image s false (Some info) (Some first) =
    without_pairs (behind (info ∷ []) (at_most 799 (chain_of image (slice_index s.bytes 3) (slice_index s.bytes 4))))

-- the file has records, by its entry
abbrev pub are_records_named : Slot → Bool
are_records_named s = nat_eq (slice_index s.bytes 23) 1

-- those of the file that an entry names
unfoldable pub named_parts : (image : List ℕ) → Slot → Option (List ℕ × List ℕ)
named_parts image s =
    parts_of image s (are_records_named s) (sector_at image (slice_index s.bytes 21) (slice_index s.bytes 22))
    (sector_at image (slice_index s.bytes 3) (slice_index s.bytes 4))

-- the sector is past track 35
abbrev pub is_past : (number : ℕ) → Bool
is_past n = nat_le 683 n

-- those of a file that has such a sector
abbrev pub past_only : Option (List ℕ × List ℕ) → Option (List ℕ × List ℕ)
past_only None = None
past_only (Some parts) = if list_any is_past parts.0 then Some parts else None

-- the sectors and the pairs of an entry's file, if it is one of GEOS with a sector past track 35, and the image has all of it
unfoldable pub long_geos : (image : List ℕ) → Slot → Option (List ℕ × List ℕ)
long_geos image s = if has_more_tracks image && is_like_geos s then past_only (named_parts image s) else None

-- its sectors
abbrev pub sectors_of : Option (List ℕ × List ℕ) → Option (List ℕ)
sectors_of None = None
sectors_of (Some parts) = Some parts.0

-- the file is one of GEOS with a sector past track 35, the image has all of it, and this sector is one of its own
abbrev pub is_in_long_geos : (image : List ℕ) → Slot → (number : ℕ) → Bool
is_in_long_geos image s n = has_number n (sectors_of (long_geos image s))
