-- The names so far were written.
use Rattle.std.proofs.Common.{take}
use Rattle.std.specs.Prelude.{flat_map}
use Rattle.std.specs.Io.KnownBytes.{Appends}
use Rattle.disk_reports.specs.Plans.{next_cell}
use Rattle.disk_reports.proofs.plans.print_more_cells.Given as goal

abbrev pub invariant-loop-slot : goal.invariant-loop-slot
invariant-loop-slot g l =
    Appends (g.W.Write.contents l.fn.out) (g.W.Write.contents l.out) (flat_map next_cell (take l.slot-index l.slots))
