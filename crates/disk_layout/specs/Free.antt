-- A track of the map on which nothing is free, and one of which the sectors from one on are: as a blank map is made, track
-- by track. Our own.
use Rattle.std.specs.Prelude.{◌≡◌, ◌≢◌, ℕ, ◌-◌, ◌<◌, ◌&&◌, drop, if◌then◌else◌, min, nat_le, nat_lt, take}
use Rattle.d64_image.specs.Geometry.{sectors_on}
use Rattle.d64_image.specs.Images.{Sector}
use Rattle.disk_layout.specs.Map.{map_bit, map_count}

-- no bit of the track is set, and its count is 0
pub record IsWithoutFree (bytes : Sector) (t : ℕ) : Type 0 where
  pub count : map_count bytes t ≡ 0
  pub bits : (s : ℕ) → s < 24 → map_bit bytes t s ≡ 0

-- of the track's sectors below `end` those from `from` on are free, and no other; the other tracks are as they were
pub record IsFreeFrom (old new : Sector) (t from end : ℕ) : Type 0 where
  pub count : map_count new t ≡ min end (sectors_on t) - from
  pub bits : (s : ℕ) → s < 24
      → map_bit new t s ≡ (if (nat_le from s && nat_lt s (min end (sectors_on t))) then 1 else 0)
  pub counts : (u : ℕ) → u ≢ t → map_count new u ≡ map_count old u
  pub others : (u s : ℕ) → u ≢ t → s < 24 → map_bit new u s ≡ map_bit old u s
  pub header : (take 4 new ≡ take 4 old) × (drop 144 new ≡ drop 144 old)
