-- Whose the row is.
use Rattle.std.proofs.Common.{refl}
use Rattle.std.proofs.Output.{has_written_of_eq}
use Rattle.file_rescues.specs.rescue.Index.{naming_text}
use Rattle.file_rescues.proofs.rescue.rows.NamingDisplay.fmt.Goals as goal

pub returns-clause-writes : goal.returns-clause-writes
unfolding naming_text
returns-clause-writes g c = λ plain done. has_written_of_eq _ _ _ _ _
    (rw (c.entry_name-name.ensures.name) refl) (c.write.ensures.writes plain done)
