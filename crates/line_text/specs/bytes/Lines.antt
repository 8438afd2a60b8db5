-- Lines of records as they are read. Our own.
use Rattle.std.specs.Prelude.{◌≡◌, ◌⊎◌, ℕ, Bool, List, [], ◌∷◌, ◌++◌, decimal, false, nat_eq, replicate, take}
use Rattle.std.specs.List.{list_any}
use Rattle.line_text.specs.bytes.Texts.{text_of}

-- a byte of the text is a comma
abbrev pub has_comma : List ℕ → Bool
has_comma text = list_any (λ b. nat_eq b 44) text

-- A line, without its end, is of record n with these bytes. The quotation marks may be left out, as a spreadsheet does,
-- unless the text has a comma: a line of several columns is of no record.
abbrev pub IsLineOf : List ℕ → ℕ → List ℕ → Type 0
IsLineOf line n bytes =
    (line ≡ decimal n ++ (44 ∷ (34 ∷ (text_of bytes ++ 34 ∷ []))))
    ⊎ ((line ≡ decimal n ++ (44 ∷ text_of bytes)) × (has_comma (text_of bytes) ≡ false))

-- the text is between quotation marks
abbrev pub IsQuoted : List ℕ → List ℕ → Type 0
IsQuoted text inner = text ≡ 34 ∷ (inner ++ 34 ∷ [])

-- the n bytes of a record that begins with these bytes and has zeros after them
abbrev pub padded : ℕ → List ℕ → List ℕ
padded n bytes = take n (bytes ++ replicate n 0)
