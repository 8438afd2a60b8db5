-- Line by line.
use Rattle.disk_changes.proofs.lemmas.lines.SeveralColumns.{lines-back}
use Rattle.disk_changes.proofs.laws.columns_come_back.Goals as goal

pub returns : goal.returns
returns c = lines-back
