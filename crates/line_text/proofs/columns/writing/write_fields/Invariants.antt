-- The first mark and the pieces of the bytes so far were written.
use Rattle.std.proofs.Common.{◌∷◌, take}
use Rattle.std.specs.Prelude.{flat_map}
use Rattle.std.specs.Io.KnownBytes.{Appends}
use Rattle.line_text.specs.columns.Columns.{piece}
use Rattle.line_text.proofs.columns.writing.write_fields.Given as goal

abbrev pub invariant-loop-byte : goal.invariant-loop-byte
invariant-loop-byte g l =
    Appends (g.W.Write.contents l.fn.out) (g.W.Write.contents l.out) (34 ∷ flat_map piece (take l.byte-index l.fields))
