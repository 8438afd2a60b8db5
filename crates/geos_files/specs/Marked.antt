-- A table of the blocks of a file. Our own.
use Rattle.std.specs.Prelude.{◌≡◌, ◌+◌, List, length}
use Rattle.d64_image.specs.declared.place.Place.{Place}
use Rattle.disk_layout.specs.Chain.{EachOnce}
use Rattle.disk_layout.specs.Visited.{IsSetOf, room}
use Rattle.disk_layout.specs.declared.visited.Visited.{Visited}

-- just these blocks have a mark, and none of them comes twice
pub record IsMarked (visited : Visited) (ps : List Place) : Type 0 where
  pub marks : IsSetOf visited ps
  pub once : EachOnce ps
  pub count : length ps + room visited ≡ 683
