-- The shades so far were printed.
use Rattle.std.specs.Io.KnownBytes.{Appends}
use Rattle.disk_pictures.specs.Held.{drawn_in}
use Rattle.disk_pictures.specs.Sheets.{shade_path}
use Rattle.disk_pictures.specs.Texts.{each_below}
use Rattle.disk_pictures.proofs.sheets.tiles.print_small.Given as goal

abbrev pub invariant-loop-number : goal.invariant-loop-number
invariant-loop-number g l = Appends (g.W.Write.contents l.fn.out) (g.W.Write.contents l.out)
    (each_below l.number (shade_path l.found l.drawing.map (drawn_in l.drawing)))
