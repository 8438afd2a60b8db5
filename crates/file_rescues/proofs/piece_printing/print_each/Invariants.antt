-- The lines of the records so far were printed.
use Rattle.std.specs.Io.KnownBytes.{Appends}
use Rattle.file_rescues.specs.Forms.{form_lines_to}
use Rattle.file_rescues.specs.Records.{records_of}
use Rattle.file_rescues.proofs.piece_printing.print_each.Given as goal

abbrev pub invariant-loop-before : goal.invariant-loop-before
invariant-loop-before g l = Appends (g.W.Write.contents l.fn.out) (g.W.Write.contents l.out)
    (form_lines_to l.form (records_of l.size l.bytes) l.before)
