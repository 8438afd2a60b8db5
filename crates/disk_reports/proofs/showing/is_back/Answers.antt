use Rattle.disk_reports.proofs.Ends.{back-same}
use Rattle.disk_reports.proofs.showing.is_back.Goals as goal

pub returns-in-Loop : goal.returns-in-Loop
returns-in-Loop c = back-same c.args.fault c.in-Loop.at c.args.place c.is_same.result c.in-Loop.is c.is_same.ensures
