-- The map compared with a table of owners (1541 User's Guide, block availability map).
use Rattle.std.specs.Prelude.{ℕ, ◌≡◌, ◌≢◌, ◌⊎◌, ◌↔◌, ◌≤◌, sum_by}
use Rattle.d64_image.specs.Geometry.{sectors_on}
use Rattle.d64_image.specs.Images.{Sector}
use Rattle.d64_image.specs.declared.place.Place.{Place}
use Rattle.disk_layout.specs.Directory.{map_place}
use Rattle.disk_layout.specs.Map.{IsFree, map_bit, map_count, numbers_below}
use Rattle.disk_layout.specs.declared.faults.Fault.{Fault}
use Rattle.disk_layout.specs.declared.faults.Fault.TheVariants.{MapWrong}
use Rattle.layout_check.specs.Owners.{owner_of}
use Rattle.layout_check.specs.declared.owners.Owners.{Owners}

-- the sector is free in the map exactly if nobody owns it
abbrev pub IsMarked : Sector → Owners → Place → Type 0
IsMarked bytes t p = IsFree bytes p ↔ (owner_of t p ≡ 255)

-- how many sectors of a track are free by their bits
abbrev pub ones_on : Sector → ℕ → ℕ
ones_on bytes track = sum_by (map_bit bytes track) (numbers_below (sectors_on track))

-- bits and count of a track are those of the table
pub record IsRightTrack (bytes : Sector) (t : Owners) (track : ℕ) : Type 0 where
  pub marked : (p : Place) → p.track ≡ track → IsMarked bytes t p
  pub count : map_count bytes track ≡ ones_on bytes track

-- bits and counts are those of the table
abbrev pub IsRightMap : Sector → Owners → Type 0
IsRightMap bytes t = (track : ℕ) → 1 ≤ track → track ≤ 35 → IsRightTrack bytes t track

-- the fault is reported at a sector whose bit is wrong, or at the map's if a count is wrong
abbrev pub IsWrongMap : Sector → Owners → Fault → Type 0
IsWrongMap bytes t fault = (p : Place) × (fault ≡ MapWrong p)
    × (¬ (IsMarked bytes t p)
    ⊎ ((p ≡ map_place) × ((track : ℕ) × (1 ≤ track) × (track ≤ 35) × (map_count bytes track ≢ ones_on bytes track))))
