use Rattle.disk_layout.specs.declared.faults.Fault.TheVariants.{BadLink}
use Rattle.disk_reports.proofs.Ends.{some-same}
use Rattle.disk_reports.proofs.showing.ends_nowhere.Goals as goal

pub returns-in-Some : goal.returns-in-Some
returns-in-Some c = some-same c.args.end c.in-Some.fault (BadLink c.args.place) c.is_nowhere.result c.in-Some.is c.is_nowhere.ensures
