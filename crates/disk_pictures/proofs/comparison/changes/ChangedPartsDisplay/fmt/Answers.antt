-- Each word that is so.
use Rattle.std.proofs.Common.{refl}
use Rattle.std.proofs.Output.{has_written_of_eq}
use Rattle.disk_pictures.proofs.comparison.changes.ChangedPartsDisplay.fmt.Goals as goal

pub returns-clause-writes : goal.returns-clause-writes
returns-clause-writes g c = λ plain done. has_written_of_eq _ _ _ _ _
    (rw (c.word_if-entry.ensures, c.word_if-sectors.ensures, c.word_if-bytes.ensures) refl) (c.write.ensures.writes plain done)
