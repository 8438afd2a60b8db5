-- Two disks compared: where they have the same bytes. Our own.
use Rattle.std.specs.Prelude.{◌≡◌, ◌⊎◌, ◌∷◌, Contains, List, ℕ}
use Rattle.d64_image.specs.Images.{Image, sector}
use Rattle.d64_image.specs.declared.place.Place.{Place}
use Rattle.disk_layout.specs.Chain.{IsChain, Names}
use Rattle.disk_layout.specs.Directory.{directory_start, map_place}
use Rattle.disk_layout.specs.Layout.{Layout, owners}
use Rattle.disk_layout.specs.declared.slot.Slot.{Slot}

-- they have the same bytes at each of these places
abbrev pub SameAt : Image → Image → List Place → Type 0
SameAt a b ps = (p : Place) → Contains ps p → sector a p ≡ sector b p

-- the chain that this entry has in the second is the same in both, with all bytes
abbrev pub SameChain : Image → Image → Slot → Type 0
SameChain a b s = (p : Place) (ps : List Place) (u : ℕ) → Names s.bytes 3 p → IsChain b p ps u → SameAt a b ps

-- the map and the directory of the second are the same in both, with all bytes
abbrev pub SameDirectory : Image → Image → Type 0
SameDirectory a b = (sector a map_place ≡ sector b map_place)
    × ((ps : List Place) (u : ℕ) → IsChain b directory_start ps u → SameAt a b ps)

-- they have the same bytes at the place, or it is somebody's in the layout
abbrev pub SameOrOwned : Image → Image → Layout → Place → Type 0
SameOrOwned a b l p = (sector a p ≡ sector b p) ⊎ Contains (map_place ∷ owners l) p
