-- How a byte of a line is listed: keywords in small letters, and other bytes as petcat writes them (VICE).
use Rattle.std.specs.Prelude.{ℕ, ◌+◌, ◌-◌, ◌/◌, ◌%◌, ◌&&◌, ◌||◌, Bool, List, [], ◌∷◌, ◌++◌, codes, false, None, Option, Some, if◌then◌else◌, nat_eq, nat_le, not, slice_index_or}
use Rattle.std.specs.Fmt.{digits}

-- the keywords from $80 on (Commodore 64 Programmer's Reference Guide)
abbrev pub keywords : List (List ℕ)
keywords =
    codes "end" ∷ codes "for" ∷ codes "next" ∷ codes "data" ∷ codes "input#" ∷ codes "input" ∷ codes "dim" ∷
    codes "read" ∷ codes "let" ∷ codes "goto" ∷ codes "run" ∷ codes "if" ∷ codes "restore" ∷ codes "gosub" ∷
    codes "return" ∷ codes "rem" ∷ codes "stop" ∷ codes "on" ∷ codes "wait" ∷ codes "load" ∷ codes "save" ∷
    codes "verify" ∷ codes "def" ∷ codes "poke" ∷ codes "print#" ∷ codes "print" ∷ codes "cont" ∷ codes "list" ∷
    codes "clr" ∷ codes "cmd" ∷ codes "sys" ∷ codes "open" ∷ codes "close" ∷ codes "get" ∷ codes "new" ∷
    codes "tab(" ∷ codes "to" ∷ codes "fn" ∷ codes "spc(" ∷ codes "then" ∷ codes "not" ∷ codes "step" ∷ codes "+" ∷
    codes "-" ∷ codes "*" ∷ codes "/" ∷ codes "^" ∷ codes "and" ∷ codes "or" ∷ codes ">" ∷ codes "=" ∷ codes "<" ∷
    codes "sgn" ∷ codes "int" ∷ codes "abs" ∷ codes "usr" ∷ codes "fre" ∷ codes "pos" ∷ codes "sqr" ∷ codes "rnd" ∷
    codes "log" ∷ codes "exp" ∷ codes "cos" ∷ codes "sin" ∷ codes "tan" ∷ codes "atn" ∷ codes "peek" ∷ codes "len" ∷
    codes "str$" ∷ codes "val" ∷ codes "asc" ∷ codes "chr$" ∷ codes "left$" ∷ codes "right$" ∷ codes "mid$" ∷
    codes "go" ∷ []

-- the keyword of a byte
unfoldable pub keyword : ℕ → List ℕ
keyword b = slice_index_or keywords (b - 128) []

-- a byte in two hexadecimal digits
abbrev pub hex : ℕ → List ℕ
hex b = digits 16 false (b / 16) ++ digits 16 false (b % 16)

-- the byte is in this range
abbrev pub is_in : (low high : ℕ) → ℕ → Bool
is_in low high b = nat_le low b && nat_le b high

-- The character of ASCII of a byte that isn't a keyword: a C64's letters are small here, its shifted ones capitals, and pi is
-- a tilde
unfoldable pub letter : ℕ → Option ℕ
letter b =
    if is_in 32 64 b || is_in 91 95 b then Some b
    else (if is_in 65 90 b then Some (b + 32)
    else (if is_in 193 218 b then Some (b - 128)
    else (if nat_eq b 255 then Some 126
    else None)))

-- a byte that has this character; without one it stands in braces: $93 is {$93}
abbrev pub braced : Option ℕ → ℕ → List ℕ
braced (Some c) b = c ∷ []
braced None b = codes "{$" ++ (hex b ++ codes "}")

-- a byte that isn't a keyword
abbrev pub character : ℕ → List ℕ
character b = braced (letter b) b

-- a byte of a line; it is literal between quotation marks and after REM
abbrev pub shown : (is_literal : Bool) → ℕ → List ℕ
shown is_literal b = if not is_literal && is_in 128 203 b then keyword b else character b
