-- The texts were written one after another.
use Rattle.std.proofs.lemmas.Result.{on_ok_weaker}
use Rattle.disk_reports.proofs.Written.{three}
use Rattle.disk_reports.proofs.plans.print_line_tail.Goals as goal

pub returns : goal.returns
returns g c =
    on_ok_weaker c.write_all.result (three _ _ _ _ _ _ _ c.in_ok-print_part.ensures c.in_ok-print_part-2.ensures) c.write_all.ensures.bytes
