-- What is read of an input line by line. All of it is our own.
use Rattle.std.specs.Prelude.{◌≡◌, ◌≢◌, ◌⊎◌, ◌≤◌, ℕ, Bool, true, false, List, [], ◌∷◌, ◌++◌, OnSome, Option, length}
use Rattle.std.specs.Prelude.{take}
use Rattle.std.specs.List.{AllByRecursion}
use Rattle.std.specs.Io.KnownBytes.{Consumes, IsAtEnd}
use Rattle.line_server.specs.declared.reading.Part.{Part}
use Rattle.line_server.specs.declared.reading.Part.TheVariants.{Ended, Over}

-- no byte is an LF
abbrev pub LacksLf : List ℕ → Type 0
LacksLf bytes = AllByRecursion (λ b. b ≢ 10) bytes

-- an LF, if the line was ended
abbrev pub lf_after : Bool → List ℕ
lf_after true = 10 ∷ []
lf_after false = []

-- the line came to its LF
abbrev pub has_end : Part → Bool
has_end (Ended _) = true
has_end _ = false

-- a look at the input took these bytes of a line, and its LF if it came to that
pub record TookPart (old new : Option (List ℕ)) (before after : List ℕ) (part : Part) : Type 0 where
  pub raw : List ℕ
  pub lacks : LacksLf raw
  pub kept : length before ≤ 40 → after ≡ take 40 (before ++ raw)
  pub consumed : Consumes old new (raw ++ lf_after (has_end part))
  pub over : part ≡ Over → OnSome old (IsAtEnd new)

-- no bytes, or bytes whose last is an LF
abbrev pub AreWhole : List ℕ → Type 0
AreWhole bytes = (bytes ≡ []) ⊎ ((front : List ℕ) × (bytes ≡ front ++ 10 ∷ []))
