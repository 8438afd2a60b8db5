use Rattle.disk_changes.proofs.lemmas.lines.ShownLines.{shown-back}
use Rattle.disk_changes.proofs.laws.shown_records_come_back.Goals as goal

pub returns : goal.returns
returns c = shown-back
