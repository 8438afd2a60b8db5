-- Records cut at fixed positions as columns, and back. Positions count from 1. All of it is our own.
use Rattle.std.specs.Prelude.{◌<◌, ◌≤◌, ◌-◌, ◌+◌, ◌&&◌, ℕ, zero, suc, Bool, List, [], ◌∷◌, ◌++◌, Option, Some, None, drop, false, get_or}
use Rattle.std.specs.Prelude.{if◌then◌else◌, length, map, nat_eq, nat_lt, not, replicate, slice_range}
use Rattle.std.specs.Borrow.{Bor}
use Rattle.line_text.specs.bytes.Texts.{text_of, trimmed}
use Rattle.line_text.specs.columns.Columns.{columns_of_fields}
use Rattle.line_text.specs.columns.Marks.{without_marks}

-- the pieces of a record that begin at these positions, each up to the next one
unfoldable pub pieces : List ℕ → List ℕ → List (List ℕ)
pieces [] r = []
pieces (p ∷ []) r = drop (p - 1) r ∷ []
pieces (p ∷ (q ∷ ps)) r = slice_range r (p - 1) (q - 1) ∷ pieces (q ∷ ps) r

-- a record as columns: its pieces without the zeros at their ends. Cut at 1,5 the record KING, two zeros and 42 is
-- "KING","\00\0042"
abbrev pub piece_columns : List ℕ → List ℕ → List ℕ
piece_columns ps r = columns_of_fields (map trimmed (pieces ps r))

-- this byte ends a column: a comma, if no quotation mark is open
abbrev pub ends_column : Bool → ℕ → Bool
ends_column marked b = not marked && nat_eq b 44

-- whether a mark is open after this byte
abbrev pub toggled : Bool → ℕ → Bool
toggled marked b = if nat_eq b 34 then not marked else marked

-- a byte before the first of these columns
abbrev pub onto : ℕ → List (List ℕ) → List (List ℕ)
onto b [] = (b ∷ []) ∷ []
onto b (column ∷ columns) = (b ∷ column) ∷ columns

-- the columns of a line, with their marks
unfoldable pub cut : Bool → List ℕ → List (List ℕ)
cut marked [] = [] ∷ []
cut marked (b ∷ line) = if ends_column marked b then [] ∷ cut false line else onto b (cut (toggled marked b) line)

-- the columns of the rest of a line, if a comma stood before it
abbrev pub columns_after : Option (Bor (List ℕ)) → List (List ℕ)
columns_after None = []
columns_after (Some line) = cut false line.now

-- How many bytes a text stands for, of which so many digits are the first one's. One that ends within a byte counts as
-- more than a record has
unfoldable pub byte_count : ℕ → List ℕ → ℕ
byte_count zero [] = 0
byte_count (suc digits) [] = 255
byte_count (suc digits) (b ∷ text) = byte_count digits text
byte_count zero (b ∷ text) = suc (byte_count (if nat_eq b 92 then 2 else 0) text)

-- how many bytes of the record there are after a piece at position p; there were `end` before
abbrev pub end_after : ℕ → ℕ → List ℕ → ℕ
end_after end p [] = end
end_after end p (b ∷ text) = p - 1 + byte_count 0 (b ∷ text)

-- the text of the piece, after the zeros up to its position
abbrev pub placed : ℕ → ℕ → List ℕ → List ℕ
placed end p [] = []
placed end p (b ∷ text) = text_of (replicate (p - 1 - end) 0) ++ b ∷ text

-- The text of a record that has these texts at these positions; `end` bytes stand before. A quotation mark, which is in
-- no text of bytes, stands for a piece that goes beyond the next position, and for one that has no position
unfoldable pub joined_at : ℕ → List ℕ → List (List ℕ) → List ℕ
joined_at end [] [] = []
joined_at end [] (text ∷ texts) = 34 ∷ []
joined_at end (p ∷ ps) [] = if nat_lt end p then [] else 34 ∷ []
joined_at end (p ∷ ps) (text ∷ texts) =
    if nat_lt end p then placed end p text ++ joined_at (end_after end p text) ps texts else 34 ∷ []

-- the texts of a line's columns
abbrev pub texts_of : List ℕ → List (List ℕ)
texts_of line = map without_marks (cut false line)

-- The column of this index has bytes beyond the position of the next one.
pub record IsTooLong (ps line : List ℕ) (k : ℕ) : Type 0 where
  pub next : suc k < length ps
  pub column : k < length (texts_of line)
  pub some : 1 ≤ length (get_or (texts_of line) k [])
  pub beyond : get_or ps (suc k) 0 ≤ get_or ps k 0 - 1 + byte_count 0 (get_or (texts_of line) k [])

-- Columns as the text of one record. At 1,5 the line "KING",42 is KING42, and "HE",42 is HE\00\0042
abbrev pub pieces_text : List ℕ → List ℕ → List ℕ
pieces_text ps line = joined_at 0 ps (texts_of line)
