-- Lines with several columns as lines of records. Our own.
use Rattle.std.specs.Prelude.{ℕ, List, [], ◌∷◌, ◌++◌, flat_map, if◌then◌else◌, nat_eq}
use Rattle.line_text.specs.columns.Columns.{columns_text}
use Rattle.line_text.specs.columns.Pieces.{pieces_text}
use Rattle.line_text.specs.columns.Positions.{starts}
use Rattle.line_text.specs.scripts.Lines.{lines}
use Rattle.file_rescues.specs.declared.forms.ColumnForm.{ColumnForm}
use Rattle.file_rescues.specs.declared.forms.ColumnForm.TheVariants as forms

-- the text of the record that has these columns: its fields, or its pieces at positions
abbrev pub record_text : ColumnForm → List ℕ → List ℕ
record_text forms.Fields columns = columns_text columns
record_text (forms.At positions) columns = pieces_text (starts positions) columns

-- after the number: one column between quotation marks
abbrev pub one_column : ColumnForm → List ℕ → List ℕ
one_column form columns = 44 ∷ 34 ∷ (record_text form columns ++ 34 ∷ [])

-- a line without its end; the first comma stands after the number. By fields 3,KING,LEEDS is 3,"KING\0dLEEDS\0d"
unfoldable pub plain_line : ColumnForm → List ℕ → List ℕ
plain_line form [] = []
plain_line form (b ∷ rest) = if nat_eq b 44 then one_column form rest else b ∷ plain_line form rest

-- and its end
abbrev pub ended_line : ColumnForm → List ℕ → List ℕ
ended_line form line = plain_line form line ++ 10 ∷ []

-- all lines of a text
abbrev pub plain_text : ColumnForm → List ℕ → List ℕ
plain_text form text = flat_map (ended_line form) (lines text)
