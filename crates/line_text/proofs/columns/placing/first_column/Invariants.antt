-- The bytes so far stand before the first column of the rest.
use Rattle.std.proofs.Common.{◌≡◌, drop, false, take}
use Rattle.line_text.proofs.lemmas.columns.Cut.{ahead}
use Rattle.line_text.specs.columns.Pieces.{cut}
use Rattle.line_text.proofs.columns.placing.first_column.Given as goal

abbrev pub invariant-loop-end : goal.invariant-loop-end
invariant-loop-end l = cut false l.line ≡ ahead (take l.end l.line) (cut l.marked (drop l.end l.line))
