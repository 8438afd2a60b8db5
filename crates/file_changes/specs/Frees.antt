-- Sectors that had an owner and have none any more become free in the map. Our own.
use Rattle.std.specs.Prelude.{◌≡◌, ◌↔◌, ◌⊎◌, ◌≤◌, ◌+◌, ◌∷◌, ℕ, Contains, IfErr, OnOk, Result, drop, sum_by, take}
use Rattle.d64_image.specs.Geometry.{sectors_on}
use Rattle.d64_image.specs.History.{Changes, History}
use Rattle.d64_image.specs.Images.{Image, Sector, put, sector}
use Rattle.d64_image.specs.declared.place.Place.{Place}
use Rattle.disk_layout.specs.Directory.{map_place}
use Rattle.disk_layout.specs.Fault.{Holds, TellsFault}
use Rattle.disk_layout.specs.Layout.{Layout, owners}
use Rattle.disk_layout.specs.Map.{IsFree, map_bit, map_count, numbers_below}
use Rattle.disk_layout.specs.declared.faults.Fault.{Fault}

-- the count of each track is that of its free sectors
abbrev pub HasCounts : Sector → Type 0
HasCounts bytes = (t : ℕ) → 1 ≤ t → t ≤ 35 → map_count bytes t ≡ sum_by (map_bit bytes t) (numbers_below (sectors_on t))

-- the sectors with Q are free in the new map, too, and no others
pub record IsFreedMap (old new : Sector) (Q : Place → Type 0) : Type 0 where
  pub marked : (p : Place) → IsFree new p ↔ (IsFree old p ⊎ Q p)
  pub counts : HasCounts old → HasCounts new
  pub header : (take 4 new ≡ take 4 old) × (drop 144 new ≡ drop 144 old)

-- the sector has an owner in the layout l, and none in m
abbrev pub IsLeft : Layout → Layout → Place → Type 0
IsLeft l m p = Contains (map_place ∷ owners l) p × ¬ (Contains (map_place ∷ owners m) p)

-- c is a but for the map, in which the sectors that have an owner in l and none in m are free, too
pub record IsFreed (a : Image) (l m : Layout) (c : Image) : Type 0 where
  pub map : Sector
  pub freed : IsFreedMap (sector a map_place) map (IsLeft l m)
  pub is : c ≡ put a map_place map

-- These sectors were freed, or the device failed.
pub record Frees {D : Type 0} (S : History D) (old new : D) (l m : Layout) (result : Result (Unit {0}) Fault) : Type 0
  where
    pub ok : OnOk result (IsFreed (S.image old) l m (S.image new))
    pub err : IfErr result (Holds (S.failed_at new) (S.image old))
    -- every image held, and the one write
    pub moments : Changes S old new 1 (λ c. (c ≡ S.image old) ⊎ IsFreed (S.image old) l m c)
    -- those of a survey, and the map
    pub reads : S.reads new ≤ S.reads old + 2115
    pub failures : TellsFault S old new result
