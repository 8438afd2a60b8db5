-- An entry's line was written after the others.
use Rattle.std.proofs.Common.{rules}
use Rattle.disk_reports.proofs.Listings.{lines-more}
use Rattle.disk_reports.proofs.directory_listing.print_entries.Goals as goal

pub loop-slot-preserved : goal.loop-slot-preserved
loop-slot-preserved g c =
    lines-more _ _ _ c.args.form c.args.slots.now c.loop-slot.slot-index c.slot-item.result (search rules) (search rules)
    c.loop-slot.invariant c.in_ok-print_line.ensures.ok
