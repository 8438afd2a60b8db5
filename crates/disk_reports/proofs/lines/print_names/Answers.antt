-- A name more was written.
use Rattle.std.proofs.Common.{rules}
use Rattle.disk_reports.proofs.Written.{text-more}
use Rattle.disk_reports.specs.AllFaults.{spaced_name}
use Rattle.disk_reports.proofs.lines.print_names.Goals as goal

pub loop-slot-preserved : goal.loop-slot-preserved
loop-slot-preserved g c =
    text-more spaced_name _ _ _ c.args.slots.now c.loop-slot.slot-index c.slot-item.result (search rules) (search rules)
    c.loop-slot.invariant c.in_ok-print_name.ensures
