-- What was joined, and what the rest of the columns gives from here, are the text of all.
use Rattle.std.proofs.Common.{◌≡◌, ◌++◌, drop}
use Rattle.std.specs.Prelude.{vec_items}
use Rattle.line_text.specs.columns.Columns.{fields_text}
use Rattle.line_text.specs.declared.columns.reading.Column.TheVariants.{Start}
use Rattle.line_text.proofs.columns.reading.push_fields.Given as goal

abbrev pub invariant-loop-byte : goal.invariant-loop-byte
invariant-loop-byte l =
    vec_items l.text ++ fields_text l.column (drop l.byte-index l.line) ≡ vec_items l.fn.text ++ fields_text Start l.line
