-- The beginning, and the white lines so far, were printed.
use Rattle.std.proofs.Common.{◌+◌, ◌++◌}
use Rattle.std.specs.Prelude.{codes}
use Rattle.std.specs.Io.KnownBytes.{Appends}
use Rattle.disk_pictures.specs.Held.{drawn_in}
use Rattle.disk_pictures.specs.Pictures.{own_ring}
use Rattle.disk_pictures.specs.Texts.{each_below}
use Rattle.disk_pictures.proofs.pages.white_lines.print_open.Given as goal

abbrev pub invariant-loop-below : goal.invariant-loop-below
invariant-loop-below g l = Appends (g.W.Write.contents l.fn.out) (g.W.Write.contents l.out)
    (codes "<g class=\"open\">\n" ++ each_below l.below (λ b. own_ring l.drawing.map (drawn_in l.drawing) (b + 1)))
