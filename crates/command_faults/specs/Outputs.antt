-- What an output that fails has of a text. Our own.
use Rattle.std.specs.Prelude.{◌≡◌, ℕ, List, ◌++◌, Option}
use Rattle.std.specs.Io.KnownBytes.{Appends}

-- of these bytes, `held`, a beginning was handed to an output, and the others, `kept`, weren't
abbrev pub HandsOn : Option (List ℕ) → Option (List ℕ) → List ℕ → List ℕ → Type 0
HandsOn old new held kept = (front : List ℕ) × Appends old new front × (held ≡ front ++ kept)

-- a beginning of these bytes was, perhaps none of them or all
abbrev pub HandsPart : Option (List ℕ) → Option (List ℕ) → List ℕ → Type 0
HandsPart old new bytes = (front : List ℕ) × (rest : List ℕ) × Appends old new front × (bytes ≡ front ++ rest)
