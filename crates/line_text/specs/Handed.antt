-- What a writer has of bytes that were handed to it. Our own.
use Rattle.std.specs.Prelude.{ℕ, List, Option, take}
use Rattle.std.specs.Io.KnownBytes.{Appends}

-- a prefix of these bytes, perhaps all, was written after what is known
abbrev pub AppendsPart : Option (List ℕ) → Option (List ℕ) → List ℕ → Type 0
AppendsPart old new bytes = (n : ℕ) × Appends old new (take n bytes)
