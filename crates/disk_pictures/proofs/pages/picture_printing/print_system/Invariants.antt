-- The map, and the directory's sectors so far, were printed.
use Rattle.std.proofs.Common.{◌++◌, take}
use Rattle.std.specs.Prelude.{codes, flat_map}
use Rattle.std.specs.Io.KnownBytes.{Appends}
use Rattle.disk_pictures.specs.Pictures.{directory_arc, map_arc}
use Rattle.disk_pictures.proofs.pages.picture_printing.print_system.Given as goal

abbrev pub invariant-loop-place : goal.invariant-loop-place
invariant-loop-place g l = Appends (g.W.Write.contents l.fn.out) (g.W.Write.contents l.out)
    ((codes "<g id=\"m\">\n" ++ map_arc) ++ flat_map directory_arc (take l.place-index l.place-items))
