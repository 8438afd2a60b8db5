-- The beginning, the drawing, and what is told.
use Rattle.std.proofs.lemmas.Result.{on_ok_weaker}
use Rattle.disk_pictures.proofs.Printing.{three}
use Rattle.disk_pictures.specs.Sheets.{tile_text}
use Rattle.disk_pictures.proofs.sheets.tiles.print_tile.Goals as goal

pub returns-clause-ok : goal.returns-clause-ok
unfolding tile_text
returns-clause-ok g c =
    on_ok_weaker c.print_text-2.result
    (λ end. three _ _ _ _ _ _ _ c.in_ok-print_text.ensures.ok c.in_ok-print_small.ensures.ok end) c.print_text-2.ensures.ok
