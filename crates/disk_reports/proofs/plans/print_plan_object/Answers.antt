-- The texts were written one after another.
use Rattle.std.proofs.lemmas.Result.{on_ok_weaker}
use Rattle.disk_reports.proofs.Written.{three}
use Rattle.disk_reports.proofs.plans.print_plan_object.Goals as goal

pub returns : goal.returns
returns g c =
    on_ok_weaker c.print_object_tail.result (three _ _ _ _ _ _ _ c.in_ok-print_object_head.ensures c.in_ok-print_files.ensures) c.print_object_tail.ensures
