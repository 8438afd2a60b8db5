-- The entry's mark, the count, the name, the type and the records.
use Rattle.std.proofs.Output.{has_written_of_eq}
use Rattle.disk_pictures.proofs.lemmas.views.Marks.{entry-written}
use Rattle.disk_pictures.specs.Drawings.{file_in}
use Rattle.disk_pictures.proofs.map_printing.EntryLineDisplay.fmt.Goals as goal

pub returns-clause-writes : goal.returns-clause-writes
returns-clause-writes g c = λ plain done. has_written_of_eq _ _ _ _ _
    (entry-written c.args.self.now.wide c.args.self.now.number (file_in c.args.self.now.file.now) _ _ _
    (rw c.new-entry.ensures at c.block_count.ensures) c.entry_name.ensures.name
    (rw c.new-entry.ensures at c.type_byte.ensures))
    (c.writeln.ensures.writes plain done)
