-- The texts were written one after another.
use Rattle.std.proofs.lemmas.Result.{on_ok_weaker}
use Rattle.disk_reports.proofs.Written.{three}
use Rattle.disk_reports.proofs.plans.print_object_head.Goals as goal

pub returns : goal.returns
returns g c =
    on_ok_weaker c.print_end.result (three _ _ _ _ _ _ _ c.in_ok-print_head.ensures c.in_ok-write.ensures.bytes) c.print_end.ensures
