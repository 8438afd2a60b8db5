-- Fields of records as columns, by RFC 4180. A BASIC program ends each field with a carriage return, $0D. The text of a
-- byte is `byte_text`. Everything beyond that is our own.
use Rattle.std.specs.Prelude.{◌≢◌, ◌-◌, ◌&&◌, ℕ, Bool, List, [], ◌∷◌, ◌++◌, codes, false, true, flat_map, if◌then◌else◌}
use Rattle.std.specs.Prelude.{drop, length, nat_eq, not, slice_index, take}
use Rattle.std.specs.List.{AllByRecursion, suffix_len}
use Rattle.line_text.specs.bytes.Texts.{byte_text, text_of}
use Rattle.line_text.specs.columns.Marks.{without_marks}
use Rattle.line_text.specs.declared.columns.reading.Column.{Column}
use Rattle.line_text.specs.declared.columns.reading.Column.TheVariants.{Start, Plain, Quoted, Closed}

-- the record ends with a carriage return
abbrev pub is_ended : List ℕ → Bool
is_ended bytes = nat_eq (slice_index bytes (length bytes - 1)) 13

-- a record's bytes without the carriage return that ends its last field
abbrev pub fields_of : List ℕ → List ℕ
fields_of bytes = if is_ended bytes then take (length bytes - 1) bytes else bytes

-- a byte of the fields: a carriage return ends a column and begins the next; any other is its text
abbrev pub piece : ℕ → List ℕ
piece b = if nat_eq b 13 then codes "\",\"" else byte_text b

-- the last column: whether a carriage return ends the last field. It is no text of bytes
abbrev pub mark_of : Bool → List ℕ
mark_of true = codes "\\."
mark_of false = codes "\\-"

-- a record as columns: KING, CR, LEEDS, CR is "KING","LEEDS",\. and KING is "KING",\-
abbrev pub columns_of : List ℕ → List ℕ
columns_of bytes = (34 ∷ flat_map piece (fields_of bytes)) ++ (codes "\"," ++ mark_of (is_ended bytes))

-- fields as the record has them, and as columns
abbrev pub ended : List ℕ → List ℕ
ended field = field ++ 13 ∷ []

-- a field as a column
abbrev pub quoted : List ℕ → List ℕ
quoted field = 34 ∷ (text_of field ++ 34 ∷ [])

-- fields as columns, with commas between them
unfoldable pub columns_of_fields : List (List ℕ) → List ℕ
columns_of_fields [] = []
columns_of_fields (field ∷ []) = quoted field
columns_of_fields (field ∷ (next ∷ fields)) = quoted field ++ 44 ∷ columns_of_fields (next ∷ fields)

-- no byte of the field is a carriage return
abbrev pub IsField : List ℕ → Type 0
IsField field = AllByRecursion (λ b. b ≢ 13) field

-- the state of a column after one byte more
abbrev pub next_column : Column → ℕ → Column
next_column Start b = if nat_eq b 34 then Quoted else (if nat_eq b 44 then Start else Plain)
next_column Plain b = if nat_eq b 44 then Start else Plain
next_column Quoted b = if nat_eq b 34 then Closed else Quoted
next_column Closed b = if nat_eq b 44 then Start else Plain

-- What this byte gives of the record's text. A comma between columns is a carriage return, \0d. The marks of a column
-- give nothing. A mark at any other place stays, so that no bytes have the text
abbrev pub given : Column → ℕ → List ℕ
given Start b = if nat_eq b 34 then [] else (if nat_eq b 44 then 92 ∷ 48 ∷ 100 ∷ [] else b ∷ [])
given Plain b = if nat_eq b 44 then 92 ∷ 48 ∷ 100 ∷ [] else b ∷ []
given Quoted b = if nat_eq b 34 then [] else b ∷ []
given Closed b = if nat_eq b 44 then 92 ∷ 48 ∷ 100 ∷ [] else 34 ∷ b ∷ []

-- a column whose marks aren't closed has no bytes
abbrev pub given_at_end : Column → List ℕ
given_at_end Quoted = 34 ∷ []
given_at_end _ = []

-- columns as the text of a record's fields. A,"B" is A\0dB
unfoldable pub fields_text : Column → List ℕ → List ℕ
fields_text column [] = given_at_end column
fields_text column (b ∷ text) = given column b ++ fields_text (next_column column b) text

-- the byte is a comma, or is none
abbrev pub is_one : Bool → ℕ → Bool
is_one commas b = if commas then nat_eq b 44 else not (nat_eq b 44)

-- how many bytes stand before the commas at the end of a line, or before those at its end that are none
abbrev pub end_before : Bool → List ℕ → ℕ
end_before commas line = length line - suffix_len (is_one commas) line

-- the line without the commas at its end, as of empty columns that a spreadsheet added
abbrev pub unpadded : List ℕ → List ℕ
unpadded line = take (end_before true line) line

-- a column is the mark of this end
abbrev pub is_mark : ℕ → List ℕ → Bool
is_mark sign column = nat_eq (length column) 2 && (nat_eq (slice_index column 0) 92 && nat_eq (slice_index column 1) sign)

-- the text of a record with these columns before its last one. Without a mark no bytes have it
abbrev pub marked_text : List ℕ → List ℕ → List ℕ
marked_text columns mark =
    if is_mark 46 mark then fields_text Start columns ++ codes "\\0d"
    else (if is_mark 45 mark then fields_text Start columns else 34 ∷ [])

-- a line whose last column begins at `start`
abbrev pub text_from : List ℕ → ℕ → List ℕ
text_from line start =
    if nat_eq start 0 then 34 ∷ [] else marked_text (take (start - 1) line) (without_marks (drop start line))

-- any columns as the text of one record. A,B,\. is A\0dB\0d, and so is A,B,"\.",,
abbrev pub columns_text : List ℕ → List ℕ
columns_text line = text_from (unpadded line) (end_before false (unpadded line))
