-- The owner of each sector, as far as a survey has come. Our own.
use Rattle.std.specs.Prelude.{◌≡◌, ◌≢◌, ◌↔◌, ℕ, List, ◌∷◌, Contains, slice_index}
use Rattle.d64_image.specs.Images.{Image}
use Rattle.d64_image.specs.Places.{index_of}
use Rattle.d64_image.specs.declared.place.Place.{Place}
use Rattle.disk_layout.specs.Chain.{EachOnce}
use Rattle.disk_layout.specs.Directory.{map_place}
use Rattle.disk_layout.specs.Layout.{File, IsLayout, Layout, file_owns}
use Rattle.disk_layout.specs.declared.faults.Fault.{Fault}
use Rattle.disk_layout.specs.declared.faults.Fault.TheVariants.{OwnedTwice}
use Rattle.layout_check.specs.declared.owners.Owners.{Owners}

-- the number of the owner of p: 255 for nobody
unfoldable pub owner_of : Owners → Place → ℕ
owner_of t p = slice_index t.numbers (index_of p)

-- these places now carry the number n; none of them was owned before, and no other place has changed
abbrev pub IsClaimed : Owners → Owners → ℕ → List Place → Type 0
IsClaimed old new n ps = (p : Place) → (Contains ps p → (owner_of old p ≡ 255) × (owner_of new p ≡ n))
    × (¬ (Contains ps p) → owner_of new p ≡ owner_of old p)

-- the fault is reported at one of these places, which has an owner in the table
abbrev pub IsOwned : Owners → List Place → Fault → Type 0
IsOwned t ps fault = (p : Place) × (fault ≡ OwnedTwice p) × Contains ps p × (owner_of t p ≢ 255)

-- the map and these sectors have the number 254, and no other sector has an owner
abbrev pub IsSystem : Owners → List Place → Type 0
IsSystem t dir = (p : Place) → (Contains (map_place ∷ dir) p → owner_of t p ≡ 254)
    × (¬ (Contains (map_place ∷ dir) p) → owner_of t p ≡ 255)

-- these are the sectors that have the same number as p, each once
pub record AreOwnedWith (t : Owners) (p : Place) (ps : List Place) : Type 0 where
  pub once : EachOnce ps
  pub those : (q : Place) → (owner_of t q ≡ owner_of t p) ↔ Contains ps q

-- each file of the layout has a number of its own: what the file owns has it, and no other sector
abbrev pub NumbersFiles : Owners → Layout → Type 0
NumbersFiles t l = (f : File) (p : Place) → Contains l.files f → Contains (file_owns f) p
    → AreOwnedWith t p (file_owns f)

-- so it is in each layout of the image
abbrev pub NumbersEach : Owners → Image → Type 0
NumbersEach t img = (l : Layout) → IsLayout img l → NumbersFiles t l
