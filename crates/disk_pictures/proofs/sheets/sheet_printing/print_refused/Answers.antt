-- The beginning, why, and the end.
use Rattle.std.proofs.lemmas.Result.{on_ok_weaker}
use Rattle.disk_pictures.proofs.Printing.{three}
use Rattle.disk_pictures.specs.Sheets.{refused_tile}
use Rattle.disk_pictures.proofs.sheets.sheet_printing.print_refused.Goals as goal

pub returns-clause-ok : goal.returns-clause-ok
unfolding refused_tile
returns-clause-ok g c =
    on_ok_weaker c.print_text-3.result
    (λ end. three _ _ _ _ _ _ _ c.in_ok-print_text.ensures.ok c.in_ok-print_text-2.ensures.ok end) c.print_text-3.ensures.ok
