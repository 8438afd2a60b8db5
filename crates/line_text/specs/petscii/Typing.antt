-- Text of PETSCII that is typed, and records as lines of such text. Which of two codes a keyboard gives is that of the Commodore
-- 64 Programmer's Reference Guide, appendix C: $C1 and not $61. The marks are those of RFC 4180. The rest is our own.
use Rattle.std.specs.Prelude.{◌≡◌, ◌⊎◌, ℕ, Bool, false, true, ◌&&◌, ◌||◌, List, [], ◌∷◌, ◌++◌, decimal, nat_eq, nat_le, nat_lt, not}
use Rattle.std.specs.List.{AllByRecursion, list_any}
use Rattle.line_text.specs.bytes.Lines.{has_comma}
use Rattle.line_text.specs.petscii.Quoted.{one_line}
use Rattle.line_text.specs.declared.petscii.characters.CharacterSet.{CharacterSet}

-- a keyboard gives the byte: those from $60 to $7F and from $E0 on show the characters of other bytes
abbrev pub is_typed : ℕ → Bool
is_typed b = nat_lt b 96 || (nat_le 128 b && nat_lt b 224)

-- the text is what `one_line` shows of these bytes, all of which a keyboard gives. In the mixed set Hi\0d is of C8 49 0D
abbrev pub IsTyped : CharacterSet → (text bytes : List ℕ) → Type 0
IsTyped set text bytes = (text ≡ one_line set bytes) × AllByRecursion (λ b. is_typed b ≡ true) bytes

-- a byte of the text is a quotation mark
abbrev pub has_mark : List ℕ → Bool
has_mark text = list_any (λ b. nat_eq b 34) text

-- a text that needs no marks around it
abbrev pub IsBare : List ℕ → Type 0
IsBare text = (has_comma text ≡ false) × (has_mark text ≡ false)

-- A line, without its end, has the number n and this text. The marks around the text may be left out, as a spreadsheet does, if the
-- text has neither a comma nor a mark.
abbrev pub IsTextLine : List ℕ → ℕ → List ℕ → Type 0
IsTextLine line n text =
    (line ≡ decimal n ++ (44 ∷ (34 ∷ (text ++ 34 ∷ []))))
    ⊎ ((line ≡ decimal n ++ (44 ∷ text)) × IsBare text)
