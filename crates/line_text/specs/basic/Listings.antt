-- The listing of a program in BASIC (Commodore 64 Programmer's Reference Guide, how a program is kept): after its load
-- address its lines, each a link, a number, its bytes and 00. A link whose second byte is 00 ends it.
use Rattle.std.specs.Prelude.{ℕ, zero, suc, ◌+◌, ◌*◌, ◌&&◌, ◌||◌, Bool, List, [], ◌∷◌, ◌++◌, codes, decimal, false, true, nat_eq, not, if◌then◌else◌}
use Rattle.line_text.specs.basic.Characters.{hex, shown}

-- whether the next byte of a line stands between quotation marks, if this one does or doesn't
abbrev pub is_quoted_after : Bool → ℕ → Bool
is_quoted_after quoted b = if nat_eq b 34 then not quoted else quoted

-- whether it stands after REM, $8F
abbrev pub is_remark_after : (quoted remark : Bool) → ℕ → Bool
is_remark_after quoted remark b = remark || (not quoted && nat_eq b 143)

abbrev mutual
  -- the text of these lines, up to the end of the program or of the file
  pub lines : List ℕ → List ℕ
  lines (low ∷ suc high ∷ a ∷ b ∷ rest) = decimal (a + 256 * b) ++ (codes " " ++ line_rest false false rest)
  lines _ = []

  -- the text of the rest of a line, and of the lines after it
  pub line_rest : (quoted remark : Bool) → List ℕ → List ℕ
  line_rest quoted remark [] = codes "\n"
  line_rest quoted remark (zero ∷ rest) = codes "\n" ++ lines rest
  line_rest quoted remark (suc b ∷ rest) = shown (quoted || remark) (suc b)
      ++ line_rest (is_quoted_after quoted (suc b)) (is_remark_after quoted remark (suc b)) rest

-- The listing of a file. That of 01 08 07 08 0A 00 99 00 00 00 is ;==0801== and 10 print, a line each; petcat passes over
-- the first
abbrev pub listing : List ℕ → List ℕ
listing (low ∷ high ∷ rest) = codes ";==" ++ (hex high ++ (hex low ++ (codes "==\n" ++ lines rest)))
listing _ = []

abbrev mutual
  -- the program ends before the file does
  pub has_end : List ℕ → Bool
  has_end (low ∷ zero ∷ rest) = true
  has_end (low ∷ suc high ∷ a ∷ b ∷ rest) = line_has_end rest
  has_end _ = false

  -- the same of a program that begins within a line
  pub line_has_end : List ℕ → Bool
  line_has_end [] = false
  line_has_end (zero ∷ rest) = has_end rest
  line_has_end (suc b ∷ rest) = line_has_end rest

-- the program ends within the file, at a link whose second byte is 00
abbrev pub is_ended : List ℕ → Bool
is_ended (low ∷ high ∷ rest) = has_end rest
is_ended _ = false
