-- The number, the bytes and their characters.
use Rattle.std.proofs.Output.{has_written_of_eq}
use Rattle.disk_pictures.proofs.lemmas.views.Viewed.{line-written}
use Rattle.disk_pictures.proofs.views.byte_lines.BytesLineDisplay.fmt.Goals as goal

pub returns-clause-writes : goal.returns-clause-writes
returns-clause-writes g c = λ plain done. has_written_of_eq _ _ _ _ _
    (line-written c.args.self.now.number c.hex_digit-first.result c.args.self.now.bytes.now c.hex_digit-first.ensures)
    (c.writeln.ensures.writes plain done)
