-- A fault more.
use Rattle.std.proofs.Common.{List, subst}
use Rattle.std.proofs.lemmas.List.{take_all}
use Rattle.disk_layout.specs.declared.faults.Fault.{Fault}
use Rattle.disk_reports.proofs.Gathered.{gathered-none, next-candidate}
use Rattle.disk_reports.specs.AllFaults.{IsGathered}
use Rattle.disk_reports.proofs.gathering.add_those.Goals as goal
use Rattle.std.proofs.Common.{refl}

pub loop-fault-init : goal.loop-fault-init
loop-fault-init c = gathered-none c.args.links.now c.args.first _ _ refl

pub loop-fault-preserved : goal.loop-fault-preserved
loop-fault-preserved c =
    next-candidate c.args.links.now c.args.first c.args.candidates.now c.loop-fault.fault-index c.fault-item.result _ _ _
    c.loop-fault-test.true c.fault-item.is c.loop-fault.invariant c.in_ok-add_if.ensures.ok

pub returns-clause-ok : goal.returns-clause-ok
returns-clause-ok c =
    subst (λ (fs : List Fault). IsGathered c.args.links.now c.args.first fs c.args.found.now.items c.loop-fault.found.items)
    (take_all c.loop-fault.fault-index c.args.candidates.now c.loop-fault-test.false) c.loop-fault.invariant
