-- What was written, and the columns of the pieces that are left, are those of all.
use Rattle.std.proofs.Common.{◌≡◌, ◌++◌, List, length, ℕ}
use Rattle.std.specs.Io.KnownBytes.{Appends}
use Rattle.line_text.specs.columns.Pieces.{piece_columns}
use Rattle.line_text.proofs.columns.pieces.write_pieces.Given as goal

abbrev pub invariant-loop-rest : goal.invariant-loop-rest
invariant-loop-rest g l = (written : List ℕ)
    × Appends (g.W.Write.contents l.fn.out) (g.W.Write.contents l.out) written
    × (written ++ piece_columns l.rest l.bytes ≡ piece_columns l.starts l.bytes)

abbrev pub decreases-loop-rest : goal.decreases-loop-rest
decreases-loop-rest g l = length l.rest
