use Rattle.disk_reports.proofs.Spelled.{string-spells}
use Rattle.disk_reports.proofs.laws.strings_are_read_back.Goals as goal

pub returns : goal.returns
returns c = string-spells
