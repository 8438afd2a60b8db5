-- Which shades the tracks of a small drawing have, as the code holds them. Our own.
use Rattle.std.specs.Prelude.{◌≡◌, ◌+◌, ◌*◌, ℕ, Bool, false, true, slice_index_or}
use Rattle.d64_image.specs.declared.place.Place.{Place}
use Rattle.disk_pictures.specs.declared.sheets.shades.Shades.{Shades}

-- the table has this shade for the track with so many tracks before it
abbrev pub has_shade : Shades → (below shade : ℕ) → Bool
has_shade s below shade = slice_index_or s.marks (29 * below + shade) false

-- it has the shade of each sector for the sector's track
abbrev pub HasEach : Shades → (Place → ℕ) → Type 0
HasEach s shade_of = (p : Place) → (below : ℕ) → p.track ≡ below + 1 → has_shade s below (shade_of p) ≡ true
