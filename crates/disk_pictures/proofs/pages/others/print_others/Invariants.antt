-- The beginning, and the sectors of nobody so far, were printed.
use Rattle.std.proofs.Common.{◌++◌, take}
use Rattle.std.specs.Prelude.{codes, flat_map}
use Rattle.std.specs.Io.KnownBytes.{Appends}
use Rattle.d64_image.specs.Places.{places}
use Rattle.disk_pictures.specs.Held.{drawn_in}
use Rattle.disk_pictures.specs.Pictures.{other_arc}
use Rattle.disk_pictures.proofs.pages.others.print_others.Given as goal

abbrev pub invariant-loop-index : goal.invariant-loop-index
invariant-loop-index g l = Appends (g.W.Write.contents l.fn.out) (g.W.Write.contents l.out)
    (codes "<g id=\"r\">\n" ++ flat_map (other_arc l.drawing.map (drawn_in l.drawing)) (take l.index places))
