-- A line more was written.
use Rattle.std.proofs.Common.{List, subst}
use Rattle.std.proofs.lemmas.List.{take_all}
use Rattle.disk_layout.specs.declared.faults.Fault.{Fault}
use Rattle.disk_reports.proofs.Lined.{none-printed, one-more}
use Rattle.disk_reports.specs.AllFaults.{ArePrinted}
use Rattle.disk_reports.proofs.lines.print_lines.Goals as goal

pub loop-fault-init : goal.loop-fault-init
loop-fault-init g c = none-printed c.args.links.now (g.W.Write.contents c.args.out.now)

pub loop-fault-preserved : goal.loop-fault-preserved
loop-fault-preserved g c =
    one-more c.args.links.now c.args.faults.now c.loop-fault.fault-index c.fault-item.result _ _ _ c.loop-fault-test.true
    c.fault-item.is c.loop-fault.invariant c.in_ok-print_line.ensures

pub returns : goal.returns
returns g c =
    subst (λ (fs : List Fault). ArePrinted c.args.links.now fs (g.W.Write.contents c.args.out.now)
    (g.W.Write.contents c.loop-fault.out))
    (take_all c.loop-fault.fault-index c.args.faults.now c.loop-fault-test.false) c.loop-fault.invariant
