use Rattle.disk_changes.proofs.lemmas.lines.Typed.{reads-so}
use Rattle.disk_changes.proofs.laws.typed_records_read_so.Goals as goal

pub returns : goal.returns
returns c = reads-so
