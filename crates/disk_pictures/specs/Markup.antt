-- What bytes of the disk may bring into a page. Our own.
use Rattle.std.specs.Prelude.{◌≡◌, ◌⊎◌, ℕ, Bool, ◌||◌, List, [], ◌∷◌, ◌++◌, codes, filter, nat_eq}

-- the characters that HTML is marked up by: the quotation mark, < and >
abbrev pub is_markup : ℕ → Bool
is_markup c = nat_eq c 34 || (nat_eq c 60 || nat_eq c 62)

-- the markup of a text, in order
abbrev pub markup_of : List ℕ → List ℕ
markup_of text = filter is_markup text

-- an & stands here before one of three escapes
abbrev pub BeginsEscape : List ℕ → Type 0
BeginsEscape text = (rest : List ℕ)
    × ((text ≡ codes "amp;" ++ rest) ⊎ ((text ≡ codes "lt;" ++ rest) ⊎ (text ≡ codes "gt;" ++ rest)))

-- each & begins an escape
abbrev pub IsEscaped : List ℕ → Type 0
IsEscaped [] = Unit {0}
IsEscaped (c ∷ cs) = (c ≡ 38 → BeginsEscape cs) × IsEscaped cs
