-- The lines of the tracks so far were printed.
use Rattle.std.proofs.Common.{◌+◌}
use Rattle.std.specs.Io.KnownBytes.{Appends}
use Rattle.disk_layout.specs.Map.{map_count}
use Rattle.disk_pictures.specs.Texts.{each_below}
use Rattle.disk_pictures.specs.Views.{free_line}
use Rattle.disk_pictures.proofs.views.free_printing.print_tracks.Given as goal

abbrev pub invariant-loop-below : goal.invariant-loop-below
invariant-loop-below g l = Appends (g.W.Write.contents l.fn.out) (g.W.Write.contents l.out)
    (each_below l.below (λ b. free_line (b + 1) (map_count l.map (b + 1))))
