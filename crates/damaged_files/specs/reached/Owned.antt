-- A table of how many have each sector. Our own.
use Rattle.std.specs.Prelude.{◌≡◌, ℕ, List, min, slice_index}
use Rattle.d64_image.specs.Places.{index_of}
use Rattle.d64_image.specs.declared.place.Place.{Place}
use Rattle.damaged_files.specs.reached.Sharing.{count_at}
use Rattle.damaged_files.specs.declared.reached.sharing.Owners.{Owners}

-- the number that the table has for the sector with this index; from 2 on it isn't said how many
abbrev pub owners_at : Owners → ℕ → ℕ
owners_at o i = slice_index o.counts i

-- the table says of each sector whether it is among these not at all, once, or several times
abbrev pub CountsAll : Owners → List Place → Type 0
CountsAll o all = (p : Place) → min 2 (owners_at o (index_of p)) ≡ min 2 (count_at (index_of p) all)
