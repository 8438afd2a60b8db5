-- One of the sectors so far is of this kind, or none.
use Rattle.std.proofs.Common.{◌≡◌, take}
use Rattle.std.specs.List.{list_any}
use Rattle.d64_image.specs.Places.{places}
use Rattle.disk_pictures.specs.Held.{drawn_in}
use Rattle.disk_pictures.specs.Legends.{is_of}
use Rattle.disk_pictures.proofs.pages.kinds.occurs.Given as goal

abbrev pub invariant-loop-index : goal.invariant-loop-index
invariant-loop-index l = l.found ≡ list_any (is_of l.kind l.drawing.map (drawn_in l.drawing)) (take l.index places)
