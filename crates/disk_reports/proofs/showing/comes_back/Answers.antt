use Rattle.disk_layout.specs.declared.faults.Fault.TheVariants.{Loop}
use Rattle.disk_reports.proofs.Ends.{some-same}
use Rattle.disk_reports.proofs.showing.comes_back.Goals as goal

pub returns-in-Some : goal.returns-in-Some
returns-in-Some c = some-same c.args.end c.in-Some.fault (Loop c.args.place) c.is_back.result c.in-Some.is c.is_back.ensures
