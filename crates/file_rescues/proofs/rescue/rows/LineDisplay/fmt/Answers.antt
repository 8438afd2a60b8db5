-- The parts of a line.
use Rattle.std.proofs.Common.{refl}
use Rattle.std.proofs.Output.{has_written_of_eq}
use Rattle.file_rescues.specs.rescue.Index.{row_text}
use Rattle.file_rescues.proofs.rescue.rows.LineDisplay.fmt.Goals as goal

pub returns-clause-writes : goal.returns-clause-writes
unfolding row_text
returns-clause-writes g c = λ plain done. has_written_of_eq _ _ _ _ _ refl (c.writeln.ensures.writes plain done)
