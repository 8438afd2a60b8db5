-- Scripts: the bytes of a file, as lines. All of it is our own.
use Rattle.std.specs.Prelude.{
  ◌≡◌,
  ◌≢◌,
  ◌<◌,
  ℕ,
  Bool,
  false,
  List,
  [],
  ◌∷◌,
  ◌+◌,
  ◌-◌,
  ◌==◌,
  Option,
  Some,
  None,
  if◌then◌else◌,
  length,
  take,
  slice_index,
  option_map,
}

-- the first byte c is at this index
pub record IsFirst (c : ℕ) (bytes : List ℕ) (place : ℕ) : Type 0 where
  pub inside : place < length bytes
  pub here : slice_index bytes place ≡ c
  pub before : (k : ℕ) → k < place → slice_index bytes k ≢ c

-- this byte, in front of the first piece
abbrev pub onto_first : ℕ → List (List ℕ) → List (List ℕ)
onto_first b [] = []
onto_first b (x ∷ xs) = (b ∷ x) ∷ xs

-- the pieces between bytes c
abbrev pub split : ℕ → List ℕ → List (List ℕ)
split c [] = [] ∷ []
split c (b ∷ bs) = if b == c then [] ∷ split c bs else onto_first b (split c bs)

-- without one CR at the end
abbrev pub without_cr : List ℕ → List ℕ
without_cr line = if slice_index line (length line - 1) == 13 then take (length line - 1) line else line

-- a piece that an LF ends loses one CR; the last piece has no LF, and counts if it isn't empty
abbrev pub ended : List (List ℕ) → List (List ℕ)
ended [] = []
ended (x ∷ []) = if length x == 0 then [] else x ∷ []
ended (x ∷ y ∷ ys) = without_cr x ∷ ended (y ∷ ys)

-- the lines of a script
abbrev pub lines : List ℕ → List (List ℕ)
lines script = ended (split 10 script)

-- a line that begins with @ is no message: it has a reset, and can't be played without a disk
abbrev pub is_reset : List ℕ → Bool
is_reset [] = false
is_reset (b ∷ bs) = b == 64

-- the number of the first line that begins with @, counted from 1
abbrev pub first_reset : List (List ℕ) → Option ℕ
first_reset [] = None
first_reset (l ∷ ls) = if is_reset l then Some 1 else option_map (λ n. n + 1) (first_reset ls)
