-- The map that is made from a table of owners (1541 User's Guide, block availability map).
use Rattle.std.specs.Prelude.{ℕ, ◌≡◌, ◌≢◌, ◌<◌, ◌≤◌, drop, take}
use Rattle.d64_image.specs.Geometry.{sectors_on}
use Rattle.d64_image.specs.Images.{Sector}
use Rattle.disk_layout.specs.Map.{map_bit, map_count}
use Rattle.layout_check.specs.Marked.{IsRightMap, IsRightTrack}
use Rattle.layout_check.specs.declared.owners.Owners.{Owners}

-- the bytes outside the map are the same
abbrev pub SameHeader : Sector → Sector → Type 0
SameHeader old new = (take 4 new ≡ take 4 old) × (drop 144 new ≡ drop 144 old)

-- the bits past the last sector of a track are 0
abbrev pub HasNoSpare : Sector → ℕ → Type 0
HasNoSpare bytes track = (s : ℕ) → sectors_on track ≤ s → s < 24 → map_bit bytes track s ≡ 0

-- the other tracks have the bits and the counts that they had
pub record KeepsTracks (old new : Sector) (track : ℕ) : Type 0 where
  pub bits : (t s : ℕ) → t ≢ track → s < 24 → map_bit new t s ≡ map_bit old t s
  pub counts : (t : ℕ) → t ≢ track → map_count new t ≡ map_count old t
  pub header : SameHeader old new

-- the map of a track was made by the table
pub record IsMadeTrack (old new : Sector) (t : Owners) (track : ℕ) : Type 0 where
  pub right : IsRightTrack new t track
  pub spare : HasNoSpare new track
  pub keeps : KeepsTracks old new track

-- the map was made by the table, and the bytes outside it are the same
pub record IsMadeMap (old new : Sector) (t : Owners) : Type 0 where
  pub right : IsRightMap new t
  pub spare : (track : ℕ) → 1 ≤ track → track ≤ 35 → HasNoSpare new track
  pub header : SameHeader old new
