-- Texts each line of which begins with the name of what it is about. Our own.
use Rattle.std.specs.Prelude.{ℕ, Bool, true, List, [], ◌∷◌, ◌++◌, ◌==◌, codes, if◌then◌else◌}

-- the heading of a line: the name, a colon and a space
abbrev pub heading : List ℕ → List ℕ
heading name = name ++ codes ": "

-- a byte of a text, with that before it if it begins a line
abbrev pub piece : (name : List ℕ) → (begins : Bool) → ℕ → List ℕ
piece name begins b = if begins then heading name ++ b ∷ [] else b ∷ []

-- the rest of a text; `begins` says whether its first byte begins a line; every other line begins after an LF (10)
abbrev pub rest_named : (name : List ℕ) → (begins : Bool) → List ℕ → List ℕ
rest_named name begins [] = []
rest_named name begins (b ∷ bs) = piece name begins b ++ rest_named name (b == 10) bs

-- a text with the name before each of its lines
abbrev pub named : (name text : List ℕ) → List ℕ
named name text = rest_named name true text
