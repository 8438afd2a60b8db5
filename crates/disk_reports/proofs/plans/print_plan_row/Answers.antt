-- The texts were written one after another.
use Rattle.std.proofs.lemmas.Result.{on_ok_weaker}
use Rattle.disk_reports.proofs.Written.{three}
use Rattle.disk_reports.proofs.plans.print_plan_row.Goals as goal

pub returns : goal.returns
returns g c =
    on_ok_weaker c.print_plan_tail.result (three _ _ _ _ _ _ _ c.in_ok-print_plan_head.ensures c.in_ok-print_name_cells.ensures) c.print_plan_tail.ensures
