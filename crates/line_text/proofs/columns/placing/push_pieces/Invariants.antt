-- What was appended, and what the columns that are left give, are what all give.
use Rattle.std.proofs.Common.{◌≡◌, ◌++◌, length, map}
use Rattle.std.specs.Prelude.{vec_items}
use Rattle.line_text.specs.columns.Marks.{without_marks}
use Rattle.line_text.specs.columns.Pieces.{columns_after, joined_at, pieces_text}
use Rattle.line_text.proofs.columns.placing.push_pieces.Given as goal

abbrev pub invariant-loop-rest : goal.invariant-loop-rest
invariant-loop-rest l =
    vec_items l.text ++ joined_at l.end l.positions (map without_marks (columns_after l.rest))
    ≡ vec_items l.fn.text ++ pieces_text l.starts l.line

abbrev pub decreases-loop-rest : goal.decreases-loop-rest
decreases-loop-rest l = length l.positions
