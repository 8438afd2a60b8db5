-- An entry's cells.
use Rattle.std.proofs.Common.{refl}
use Rattle.std.proofs.Output.{has_written_of_eq}
use Rattle.disk_pictures.specs.Pictures.{row_text}
use Rattle.disk_pictures.proofs.pages.page.RowDisplay.fmt.Goals as goal

pub returns-clause-writes : goal.returns-clause-writes
unfolding row_text
returns-clause-writes g c = λ plain done. has_written_of_eq _ _ _ _ _
    (rw (
      (rw c.new-entry.ensures at c.block_count.ensures),
      (rw c.new-entry.ensures at c.type_byte.ensures),
      c.entry_name-name.ensures.name,
    ) refl)
    (c.writeln.ensures.writes plain done)
