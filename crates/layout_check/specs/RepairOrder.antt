-- Which sectors a repair makes right, and in which order. Our own.
use Rattle.std.specs.Prelude.{ℕ, ◌≡◌, ◌≢◌, ◌≤◌, ◌++◌, ◌∷◌, [], List, Some, Contains, IsTrue, flat_map, slice_get}
use Rattle.d64_image.specs.Images.{Image, Sector, sector}
use Rattle.d64_image.specs.declared.place.Place.{Place}
use Rattle.disk_layout.specs.Directory.{map_place, slot_in}
use Rattle.disk_layout.specs.Layout.{File, Layout, count_field, is_rel, owners, record_length}
use Rattle.disk_layout.specs.Map.{IsMapOf}
use Rattle.disk_layout.specs.Side.{side_sector}
use Rattle.layout_check.specs.Made.{HasNoSpare}
use Rattle.layout_check.specs.Recounted.{owned_count}

-- these bytes at p are right in an image of this layout whose map calls the strays taken too: as a map, as a side
-- sector, and in the block counts of a directory sector
pub record IsRightBut (strays : List Place) (l : Layout) (p : Place) (bytes : Sector) : Type 0 where
  pub map : p ≡ map_place → IsMapOf bytes (strays ++ map_place ∷ owners l)
  pub side : (f : File) (j : ℕ) → Contains l.files f → IsTrue (is_rel f.slot) → slice_get f.sides j ≡ Some p
      → bytes ≡ side_sector j f.blocks f.sides (record_length f.slot)
  pub counts : (f : File) → Contains l.files f → IsTrue (is_rel f.slot) → f.slot.sector ≡ p
      → count_field (slot_in p bytes f.slot.number) ≡ owned_count f

-- a check finds nothing wrong in these bytes at p, in an image of this layout
abbrev pub IsRight : Layout → Place → Sector → Type 0
IsRight l p bytes = IsRightBut [] l p bytes

-- these bytes are right at p, and no others are
pub record IsOnlyRight (l : Layout) (p : Place) (bytes : Sector) : Type 0 where
  pub right : IsRight l p bytes
  pub only : (others : Sector) → IsRight l p others → bytes ≡ others

-- the side sectors of these files, in the order of the directory and by number
abbrev pub sides_of : List File → List Place
sides_of fs = flat_map (λ f. f.sides) fs

-- the sectors that a repair visits: the map, the side sectors, the directory
abbrev pub repair_order : Layout → List Place
repair_order l = map_place ∷ (sides_of l.files ++ l.directory)

-- a map that was written has 0 in the bits past the tracks' last sectors
abbrev pub ClearsSpare : Image → Image → Type 0
ClearsSpare old new = sector new map_place ≢ sector old map_place → (track : ℕ) → 1 ≤ track → track ≤ 35
    → HasNoSpare (sector new map_place) track
