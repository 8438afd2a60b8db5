-- The dashes so far were printed.
use Rattle.disk_pictures.specs.Texts.{at_place, each_below}
use Rattle.d64_image.specs.Places.{place_at}
use Rattle.disk_pictures.specs.Held.{drawn_in}
use Rattle.disk_pictures.specs.Pictures.{dash_text, is_open}
use Rattle.std.specs.Io.KnownBytes.{Appends}
use Rattle.disk_pictures.proofs.pages.white_lines.print_dashes.Given as goal

abbrev pub invariant-loop-sector : goal.invariant-loop-sector
invariant-loop-sector g l = Appends (g.W.Write.contents l.fn.out) (g.W.Write.contents l.out)
    (each_below l.sector (λ s. at_place (λ p. dash_text (is_open l.drawing.map (drawn_in l.drawing) p) p)
    (place_at l.track s)))
