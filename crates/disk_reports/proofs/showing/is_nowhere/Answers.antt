use Rattle.disk_reports.proofs.Ends.{nowhere-same}
use Rattle.disk_reports.proofs.showing.is_nowhere.Goals as goal

pub returns-in-BadLink : goal.returns-in-BadLink
returns-in-BadLink c = nowhere-same c.args.fault c.in-BadLink.at c.args.place c.is_same.result c.in-BadLink.is c.is_same.ensures
