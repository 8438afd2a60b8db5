-- Text of PETSCII between quotation marks. The marks are those of RFC 4180; which bytes are written so is our own.
use Rattle.std.specs.Prelude.{ℕ, List, [], ◌∷◌, ◌++◌, codes, flat_map, if◌then◌else◌, nat_eq}
use Rattle.line_text.specs.petscii.Characters.{readable_byte}
use Rattle.line_text.specs.declared.petscii.characters.CharacterSet.{CharacterSet}

-- A byte between the marks: a mark is doubled, and a carriage return ends no line. Any other is as people read it
abbrev pub quoted_byte : CharacterSet → ℕ → List ℕ
quoted_byte set b =
    if nat_eq b 34 then codes "\"\"" else (if nat_eq b 13 then codes "\\0d" else readable_byte set b)

-- bytes without marks around them
abbrev pub one_line : CharacterSet → List ℕ → List ℕ
one_line set bytes = flat_map (quoted_byte set) bytes

-- bytes with their marks. In the mixed set 48 22 0D is "h""\0d"
abbrev pub quoted : CharacterSet → List ℕ → List ℕ
quoted set bytes = 34 ∷ (one_line set bytes ++ 34 ∷ [])
