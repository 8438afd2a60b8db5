-- Its colour, what it is, its name, and in what it differs.
use Rattle.std.proofs.Common.{refl}
use Rattle.std.proofs.Output.{has_written_of_eq}
use Rattle.disk_pictures.specs.ComparedPages.{entry_head}
use Rattle.disk_pictures.proofs.comparison.changes.EntryHeadDisplay.fmt.Goals as goal

pub returns-clause-writes : goal.returns-clause-writes
unfolding entry_head
returns-clause-writes g c = λ plain done. has_written_of_eq _ _ _ _ _
    (rw (c.entry_name-name.ensures.name) refl) (c.write.ensures.writes plain done)
