-- What was found.
use Rattle.std.proofs.Common.{refl}
use Rattle.std.proofs.Output.{has_written_of_eq}
use Rattle.file_rescues.specs.rescue.Index.{found_text}
use Rattle.file_rescues.proofs.rescue.rows.FoundDisplay.fmt.Goals as goal

pub returns-clause-writes : goal.returns-clause-writes
unfolding found_text
returns-clause-writes g c = λ plain done. has_written_of_eq _ _ _ _ _
    (rw (c.record_length-length.ensures, c.type_byte-type_byte.ensures, c.new-entry.ensures) refl) (c.write.ensures.writes plain done)
