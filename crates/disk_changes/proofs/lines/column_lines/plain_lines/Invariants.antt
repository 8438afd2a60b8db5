-- What was appended, and what the lines that are left give, are what all give.
use Rattle.std.proofs.Common.{◌≡◌, ◌++◌, length}
use Rattle.std.specs.Prelude.{vec_items}
use Rattle.disk_changes.specs.lines.ColumnLines.{plain_text}
use Rattle.disk_changes.proofs.lines.column_lines.plain_lines.Given as goal

abbrev pub invariant-loop-line : goal.invariant-loop-line
invariant-loop-line l = vec_items l.plain ++ plain_text l.form l.rest ≡ plain_text l.form l.text

abbrev pub decreases-loop-line : goal.decreases-loop-line
decreases-loop-line l = length l.rest
