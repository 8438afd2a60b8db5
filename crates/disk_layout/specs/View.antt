-- What the sectors of track 18 hold besides the map's bits (1541 User's Guide, directory format and disk name).
use Rattle.std.specs.Prelude.{
  ◌≡◌,
  ◌≢◌,
  ℕ,
  ◌+◌,
  ◌*◌,
  ◌<◌,
  ◌⊎◌,
  List,
  if◌then◌else◌,
  length,
  nat_eq,
  slice_index,
  slice_range,
  sum_by,
  take,
}
use Rattle.d64_image.specs.Images.{Sector}
use Rattle.disk_layout.specs.Map.{map_count, numbers_below}

-- a name without its padding: the bytes before the first A0, all of them if there is none.
-- 53 54 4F 43 4B A0 A0 ... gives `STOCK`
pub record IsUnpadded (padded name : List ℕ) : Type 0 where
  pub front : name ≡ take (length name) padded
  pub bytes : (k : ℕ) → k < length name → slice_index padded k ≢ 160
  pub ends : (length name ≡ length padded) ⊎ (slice_index padded (length name) ≡ 160)

-- the free sectors of a track that hold data: track 18 has none
abbrev pub data_count : Sector → ℕ → ℕ
data_count bytes t = if nat_eq t 18 then 0 else map_count bytes t

-- the counts of the tracks 1 to 35 together, track 18 left out: 664 on a disk without a file
unfoldable pub blocks_free : Sector → ℕ
blocks_free bytes = sum_by (λ n. data_count bytes (n + 1)) (numbers_below 35)

-- the 32 bytes of slot n of a directory sector
abbrev pub entry_bytes : Sector → ℕ → List ℕ
entry_bytes bytes n = slice_range bytes (32 * n) (32 * n + 32)
