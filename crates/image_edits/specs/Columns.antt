-- A text of records as a job stores it. Our own.
use Rattle.std.specs.Prelude.{ℕ, List}
use Rattle.disk_changes.specs.lines.ColumnLines.{plain_text}
use Rattle.disk_changes.specs.declared.changes.Columns.{Columns}
use Rattle.disk_changes.specs.declared.changes.Columns.TheVariants as columns

-- the text with one column for each record
abbrev pub text_in : Columns → List ℕ → List ℕ
text_in columns.One text = text
text_in (columns.Text set) text = text
text_in (columns.Several form) text = plain_text form text
