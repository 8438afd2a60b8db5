-- The head, and the lines of the tracks so far, were printed.
use Rattle.std.proofs.Common.{◌+◌, ◌++◌}
use Rattle.std.specs.Io.KnownBytes.{Appends}
use Rattle.disk_pictures.specs.Held.{drawn_in}
use Rattle.disk_pictures.specs.Maps.{wide_head, wide_line}
use Rattle.disk_pictures.specs.Texts.{each_below}
use Rattle.disk_pictures.proofs.map_tracks.print_wide_tracks.Given as goal

abbrev pub invariant-loop-below : goal.invariant-loop-below
invariant-loop-below g l = Appends (g.W.Write.contents l.fn.out) (g.W.Write.contents l.out)
    (wide_head ++ each_below l.below (λ n. wide_line l.found l.drawing.map (drawn_in l.drawing) (n + 1)))
