-- The lines of the faults so far were written.
use Rattle.std.proofs.Common.{take}
use Rattle.disk_reports.specs.AllFaults.{ArePrinted}
use Rattle.disk_reports.proofs.lines.print_lines.Given as goal

abbrev pub invariant-loop-fault : goal.invariant-loop-fault
invariant-loop-fault g l =
    ArePrinted l.links (take l.fault-index l.faults) (g.W.Write.contents l.fn.out) (g.W.Write.contents l.out)
