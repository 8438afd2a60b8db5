-- Strings of JSON (RFC 8259, strings).
use Rattle.std.specs.Prelude.{◌≡◌, ◌≢◌, ◌⊎◌, ℕ, ◌+◌, ◌*◌, ◌/◌, ◌%◌, ◌<◌, ◌≤◌, ◌||◌, List, [], ◌∷◌, ◌++◌, codes, flat_map}
use Rattle.std.specs.Prelude.{if◌then◌else◌, nat_eq, nat_lt}
use Rattle.line_text.specs.bytes.Texts.{digit}

-- a byte in hexadecimal digits
abbrev pub digits : ℕ → List ℕ
digits b = digit (b / 16) ∷ (digit (b % 16) ∷ [])

-- a byte of a string: the quotation mark and the backslash stand after a backslash, a control character is \u and four
-- hexadecimal digits, such as \u001b, and every other byte is as it is
unfoldable pub json_char : ℕ → List ℕ
json_char b =
    if nat_eq b 34 || nat_eq b 92 then 92 ∷ b ∷ []
    else (if nat_lt b 32 || nat_eq b 127 then codes "\\u00" ++ (digit (b / 16) ∷ (digit (b % 16) ∷ [])) else b ∷ [])

-- a string: these between quotation marks
abbrev pub json_string : List ℕ → List ℕ
json_string bytes = codes "\"" ++ (flat_map json_char bytes ++ codes "\"")

-- the text between the quotation marks of a string is read as these bytes. Each stands for itself, except the quotation
-- mark, the backslash and those below 32; or it is named by an escape
pub data Spells : List ℕ → List ℕ → Type 0 where
  none : Spells [] []
  itself : (b : ℕ) (text bytes : List ℕ) → 32 ≤ b → b ≢ 34 → b ≢ 92 → Spells text bytes
      → Spells (b ∷ text) (b ∷ bytes)
  marked : (b : ℕ) (text bytes : List ℕ) → (b ≡ 34) ⊎ (b ≡ 92) → Spells text bytes
      → Spells (92 ∷ b ∷ text) (b ∷ bytes)
  numbered : (high low : ℕ) (text bytes : List ℕ) → high < 8 → low < 16 → Spells text bytes
      → Spells (codes "\\u00" ++ (digit high ∷ (digit low ∷ text))) ((16 * high + low) ∷ bytes)
