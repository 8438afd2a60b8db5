-- The blank image: an empty disk with the two files of a ledger (1541 User's Guide for the formats; which files, own).
use Rattle.std.specs.Prelude.{
  ◌≡◌,
  ◌⊎◌,
  ℕ,
  ◌+◌,
  ◌-◌,
  ◌/◌,
  ◌<◌,
  ◌≤◌,
  ◌&&◌,
  codes,
  drop,
  if◌then◌else◌,
  length,
  List,
  [],
  ◌∷◌,
  ◌++◌,
  min,
  nat_eq,
  nat_le,
  nat_lt,
  None,
  Option,
  replicate,
  slice_get,
  slice_index,
  Some,
  take,
  Contains,
}
use Rattle.std.proofs.Common.{lit<}
use Rattle.d64_image.specs.Geometry.{sectors_on}
use Rattle.d64_image.specs.Images.{Image, Sector, sector}
use Rattle.d64_image.specs.declared.place.Place.{Place}
use Rattle.disk_layout.specs.Directory.{directory_start, map_place}
use Rattle.disk_layout.specs.Map.{map_bit, map_count}
use Rattle.disk_layout.specs.Records.{filler}
use Rattle.disk_layout.specs.Entries.{rel_entry}
use Rattle.disk_layout.specs.Rest.{slot_name}
use Rattle.disk_layout.specs.Side.{link_bytes, side_sector}

-- STOCK's data block: 14 empty records of 18 bytes at 17/0
abbrev pub stock_block : Place
stock_block = record { track = 17; sector = 0; on_disk = lit< tt }

-- STOCK's side sector: 17/1
abbrev pub stock_side : Place
stock_side = record { track = 17; sector = 1; on_disk = lit< tt }

-- REQUESTS' first data block: 17/2. Its data blocks have two empty records of 127 bytes each
abbrev pub requests_block : Place
requests_block = record { track = 17; sector = 2; on_disk = lit< tt }

-- REQUESTS' side sector: 17/3
abbrev pub requests_side : Place
requests_side = record { track = 17; sector = 3; on_disk = lit< tt }

-- a record for each till, two of them to a block: 1 block for 1 and 2 tills, 32 for 64
abbrev pub request_blocks : ℕ → ℕ
request_blocks tills = (tills + 1) / 2

-- the track of data block k of REQUESTS, counted from 0: the blocks are at 17/2, 17/4 to 17/20, then 19/0 to 19/13
abbrev pub request_track : ℕ → ℕ
request_track k = if nat_lt k 18 then 17 else 19

-- its sector: 2, then 4 to 20 on track 17, then 0 to 13 on track 19
abbrev pub request_sector : ℕ → ℕ
request_sector k = if nat_lt k 1 then 2 else (if nat_lt k 18 then k + 3 else k - 18)

-- p is the place of data block k of REQUESTS
abbrev pub IsRequestPlace : ℕ → Place → Type 0
IsRequestPlace k p = (p.track ≡ request_track k) × (p.sector ≡ request_sector k)

-- the n data blocks of REQUESTS, in order
pub record AreRequestPlaces (blocks : List Place) (n : ℕ) : Type 0 where
  pub count : length blocks ≡ n
  pub each : (k : ℕ) (p : Place) → slice_get blocks k ≡ Some p → IsRequestPlace k p

-- how many sectors of a track are taken, the lowest ones, if REQUESTS has n data blocks
abbrev pub taken_on : ℕ → ℕ → ℕ
taken_on n t = if nat_eq t 17 then min (n + 3) 21 else (if nat_eq t 18 then 2 else (if nat_eq t 19 then n - 18 else 0))

-- the bytes after the map: the disk's name, two A0, its id, A0, `2A`, four A0, and zeros
abbrev pub names_of : List ℕ → List ℕ → List ℕ
names_of name id = slot_name name ++ (160 ∷ 160 ∷ (id ++ (160 ∷ 50 ∷ 65 ∷ 160 ∷ 160 ∷ 160 ∷ 160 ∷ replicate 85 0)))

-- 18/0: bytes 0-3, each track's count and bits, and the bytes after the map.
-- For 1 block track 17 reads 11 F0 FF 1F, for 32 blocks 00 00 00 00 and track 19 then 05 00 C0 07
pub record IsBlankMap (bytes : Sector) (name id : List ℕ) (n : ℕ) : Type 0 where
  pub start : take 4 bytes ≡ 18 ∷ 1 ∷ 65 ∷ 0 ∷ []
  pub counts : (t : ℕ) → 1 ≤ t → t ≤ 35 → map_count bytes t ≡ sectors_on t - taken_on n t
  pub bits : (t s : ℕ) → 1 ≤ t → t ≤ 35 → s < 24
      → map_bit bytes t s ≡ (if (nat_le (taken_on n t) s && nat_lt s (sectors_on t)) then 1 else 0)
  pub names : drop 144 bytes ≡ names_of name id

-- 18/1: no further sector, and the two entries
unfoldable pub blank_directory : ℕ → List ℕ
blank_directory n =
    (0 ∷ 255 ∷ []) ++ (rel_entry (codes "STOCK") stock_block stock_side 18 2
    ++ ((0 ∷ 0 ∷ []) ++ (rel_entry (codes "REQUESTS") requests_block requests_side 127 (n + 1) ++ replicate 192 0)))

-- a data block of this number of empty records of L bytes, which links to the next block or ends with this index
pub record IsEmptyBlock (bytes : Sector) (next : Option Place) (last L records : ℕ) : Type 0 where
  pub link : take 2 bytes ≡ link_bytes next last
  pub filled : (j : ℕ) → j < 254 → slice_index bytes (2 + j) ≡ filler L records j

-- the sectors of the blank image that aren't left as they are
abbrev pub IsBlankPlace : ℕ → Place → Type 0
IsBlankPlace n p =
    Contains (map_place ∷ directory_start ∷ stock_block ∷ stock_side ∷ requests_side ∷ []) p
    ⊎ ((k : ℕ) × (k < n) × IsRequestPlace k p)

-- all other sectors are the same
abbrev pub SameElsewhere : ℕ → Image → Image → Type 0
SameElsewhere n old new = (p : Place) → ¬ (IsBlankPlace n p) → sector new p ≡ sector old p

-- the blank image, on a disk that held the old one
pub record IsBlank (old new : Image) (name id : List ℕ) (tills : ℕ) : Type 0 where
  pub blocks : List Place
  pub places : AreRequestPlaces blocks (request_blocks tills)
  pub map : IsBlankMap (sector new map_place) name id (request_blocks tills)
  pub directory : sector new directory_start ≡ blank_directory (request_blocks tills)
  pub stock : IsEmptyBlock (sector new stock_block) None 253 18 14
  pub stock_side : sector new stock_side ≡ side_sector 0 (stock_block ∷ []) (stock_side ∷ []) 18
  pub requests : (k : ℕ) (p : Place) → slice_get blocks k ≡ Some p
      → IsEmptyBlock (sector new p) (slice_get blocks (k + 1)) 255 127 2
  pub requests_side : sector new requests_side ≡ side_sector 0 blocks (requests_side ∷ []) 127
  pub rest : SameElsewhere (request_blocks tills) old new
