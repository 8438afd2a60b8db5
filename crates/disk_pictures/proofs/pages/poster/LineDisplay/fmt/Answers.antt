-- Its beginning, the entry's count, type and name.
use Rattle.std.proofs.Common.{refl}
use Rattle.std.proofs.Output.{has_written_of_eq}
use Rattle.disk_pictures.specs.Posters.{poster_line}
use Rattle.disk_pictures.proofs.pages.poster.LineDisplay.fmt.Goals as goal

pub returns-clause-writes : goal.returns-clause-writes
unfolding poster_line
returns-clause-writes g c = λ plain done. has_written_of_eq _ _ _ _ _
    (rw (
      (rw c.new-entry.ensures at c.block_count.ensures),
      (rw c.new-entry.ensures at c.type_byte.ensures),
      c.entry_name-name.ensures.name,
    ) refl)
    (c.writeln.ensures.writes plain done)
