-- What was appended, and what the rest of the line gives, are what all gives.
use Rattle.std.proofs.Common.{◌≡◌, ◌++◌, length}
use Rattle.std.specs.Prelude.{vec_items}
use Rattle.disk_changes.specs.lines.ColumnLines.{plain_line}
use Rattle.disk_changes.proofs.lines.column_lines.push_line.Given as goal

abbrev pub invariant-loop-rest : goal.invariant-loop-rest
invariant-loop-rest l = vec_items l.text ++ plain_line l.form l.rest ≡ vec_items l.fn.text ++ plain_line l.form l.line

abbrev pub decreases-loop-rest : goal.decreases-loop-rest
decreases-loop-rest l = length l.rest
