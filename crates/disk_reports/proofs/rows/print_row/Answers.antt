-- The hashes were written after the rest.
use Rattle.std.proofs.KnownBytes.{Appends-trans}
use Rattle.std.proofs.lemmas.Result.{on_ok_weaker}
use Rattle.disk_reports.proofs.rows.print_row.Goals as goal

pub returns : goal.returns
returns g c =
    on_ok_weaker c.print_row_hashes.result (Appends-trans _ _ _ _ _ c.in_ok-print_row_head.ensures)
    c.print_row_hashes.ensures
