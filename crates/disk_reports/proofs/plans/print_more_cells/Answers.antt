-- A name more was written.
use Rattle.std.proofs.Common.{rules}
use Rattle.disk_reports.proofs.Written.{text-more}
use Rattle.disk_reports.specs.Plans.{next_cell}
use Rattle.disk_reports.proofs.plans.print_more_cells.Goals as goal

pub loop-slot-preserved : goal.loop-slot-preserved
loop-slot-preserved g c =
    text-more next_cell _ _ _ c.args.slots.now c.loop-slot.slot-index c.slot-item.result (search rules) (search rules)
    c.loop-slot.invariant c.in_ok-print_next_cell.ensures
