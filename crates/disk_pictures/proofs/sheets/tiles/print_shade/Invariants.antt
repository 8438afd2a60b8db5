-- The beginning, and the tracks so far, were printed.
use Rattle.std.proofs.Common.{◌+◌, ◌++◌}
use Rattle.std.specs.Io.KnownBytes.{Appends}
use Rattle.d64_image.specs.Places.{place_at}
use Rattle.disk_pictures.specs.Held.{drawn_in}
use Rattle.disk_pictures.specs.Sheets.{own_stroke, shade_head}
use Rattle.disk_pictures.specs.Texts.{at_place, each_below}
use Rattle.disk_pictures.proofs.sheets.tiles.print_shade.Given as goal

abbrev pub invariant-loop-below : goal.invariant-loop-below
invariant-loop-below g l = Appends (g.W.Write.contents l.fn.out) (g.W.Write.contents l.out)
    (shade_head l.number ++ each_below l.below (λ b. each_below 21
    (λ s. at_place (own_stroke l.found l.drawing.map (drawn_in l.drawing) l.number) (place_at (b + 1) s))))
