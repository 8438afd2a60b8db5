-- Its head, and then its end.
use Rattle.std.proofs.KnownBytes.{Appends-trans}
use Rattle.std.proofs.lemmas.Result.{on_ok_weaker}
use Rattle.disk_reports.proofs.rows.print_row_as_is.Goals as goal

pub returns : goal.returns
returns g c = on_ok_weaker c.print_row_end.result
    (λ more. Appends-trans _ _ _ _ _ c.in_ok-print_sized_head.ensures more) c.print_row_end.ensures
