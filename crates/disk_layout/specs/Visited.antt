-- A table with a mark for each place of the disk. Our own.
use Rattle.std.specs.Prelude.{◌↔◌, ℕ, Bool, false, not, List, slice_index_or, count_by, Contains, IsTrue}
use Rattle.d64_image.specs.Places.{index_of}
use Rattle.d64_image.specs.declared.place.Place.{Place}
use Rattle.disk_layout.specs.declared.visited.Visited.{Visited}

-- the place has a mark
abbrev pub is_in : Visited → Place → Bool
is_in s p = slice_index_or s.seen (index_of p) false

-- exactly these places have a mark
abbrev pub IsSetOf : Visited → List Place → Type 0
IsSetOf s ps = (p : Place) → IsTrue (is_in s p) ↔ Contains ps p

-- how many places have no mark
unfoldable pub room : Visited → ℕ
room s = count_by not s.seen
