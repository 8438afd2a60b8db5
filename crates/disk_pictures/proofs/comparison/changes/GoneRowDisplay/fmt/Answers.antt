-- Its name, as it is typed and as a C64 shows it.
use Rattle.std.proofs.Common.{refl}
use Rattle.std.proofs.Output.{has_written_of_eq}
use Rattle.disk_pictures.specs.ComparedPages.{gone_row}
use Rattle.disk_pictures.proofs.comparison.changes.GoneRowDisplay.fmt.Goals as goal

pub returns-clause-writes : goal.returns-clause-writes
unfolding gone_row
returns-clause-writes g c = λ plain done. has_written_of_eq _ _ _ _ _ refl (c.writeln.ensures.writes plain done)
