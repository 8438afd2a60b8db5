-- The sectors so far were printed.
use Rattle.disk_pictures.specs.Texts.{at_place, each_below}
use Rattle.d64_image.specs.Places.{place_at}
use Rattle.disk_pictures.specs.Held.{drawn_in}
use Rattle.disk_pictures.specs.Sheets.{own_stroke}
use Rattle.std.specs.Io.KnownBytes.{Appends}
use Rattle.disk_pictures.proofs.sheets.tiles.print_strokes_on.Given as goal

abbrev pub invariant-loop-sector : goal.invariant-loop-sector
invariant-loop-sector g l = Appends (g.W.Write.contents l.fn.out) (g.W.Write.contents l.out)
    (each_below l.sector (λ s. at_place (own_stroke l.found l.drawing.map (drawn_in l.drawing) l.number) (place_at l.track s)))
