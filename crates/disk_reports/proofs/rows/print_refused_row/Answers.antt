-- The texts were written one after another.
use Rattle.std.proofs.lemmas.Result.{on_ok_weaker}
use Rattle.disk_reports.proofs.Written.{four}
use Rattle.disk_reports.proofs.rows.print_refused_row.Goals as goal

pub returns : goal.returns
returns g c =
    on_ok_weaker c.write_all-2.result
    (four _ _ _ _ _ _ _ _ _ c.in_ok-print_field.ensures c.in_ok-print_size_cell.ensures c.in_ok-write_all.ensures.bytes)
    c.write_all-2.ensures.bytes
