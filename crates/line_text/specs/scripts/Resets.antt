-- Lines of a script with a reset of the power. All of it is our own.
use Rattle.std.specs.Prelude.{
  ◌≡◌,
  ◌≢◌,
  ◌≤◌,
  ◌⊎◌,
  ℕ,
  List,
  [],
  ◌∷◌,
  ◌++◌,
  ◌+◌,
  ◌==◌,
  Option,
  Some,
  None,
  is_none,
  if◌then◌else◌,
  length,
  slice_index,
  option_map,
  flat_map,
  decimal,
  nat_le,
}
use Rattle.std.specs.List.{AllByRecursion}
use Rattle.line_text.specs.Numbers.{cut_at, number_in, ◌>>=◌}
use Rattle.line_text.specs.declared.scripts.events.Event.{Event}
use Rattle.line_text.specs.scripts.Lines.{split}

-- A line: its message, and, if power fails in it, the number of the message's sector writes before that, and those of
-- each listed recovery.
pub record Line : Type 0 where
  pub message : List ℕ
  pub reset : Option (ℕ × List ℕ)

-- each number after a slash
abbrev pub slashed : List ℕ → List ℕ
slashed counts = flat_map (λ m. 47 ∷ decimal m) counts

-- The grammar of a line with a reset: @k, up to eight times /m, a space, and any message.
pub record IsReset (bytes : List ℕ) (k : ℕ) (recoveries message : List ℕ) : Type 0 where
  pub text : bytes ≡ 64 ∷ decimal k ++ slashed recoveries ++ 32 ∷ message
  pub most : k ≤ 99999
  pub few : length recoveries ≤ 8
  pub each : AllByRecursion (λ m. m ≤ 99999) recoveries

-- The grammar of lines: a line that doesn't begin with @ is its own message. A line with neither form is bad.
abbrev pub IsLine : List ℕ → Line → Type 0
IsLine bytes l = ((slice_index bytes 0 ≢ 64) × (l ≡ record { message = bytes; reset = None }))
    ⊎ ((k : ℕ) × (recoveries : List ℕ) × (message : List ℕ) × IsReset bytes k recoveries message
    × (l ≡ record { message = message; reset = Some (k, recoveries) }))

-- the pieces after a slash, if there is one
abbrev pub fields_left : Option (List ℕ) → List (List ℕ)
fields_left None = []
fields_left (Some bytes) = split 47 bytes

-- the numbers of these fields, each up to 99999
abbrev pub counts_of : List (List ℕ) → Option (List ℕ)
counts_of [] = Some []
counts_of (f ∷ fs) = do
  n ← number_in 0 99999 f
  ns ← counts_of fs
  Some (n ∷ ns)

-- the line with this message and these counts, at most nine
abbrev pub reset_with : List ℕ → List ℕ → Option Line
reset_with message [] = None
reset_with message (k ∷ recoveries) =
    if nat_le (length recoveries) 8 then Some (record { message = message; reset = Some (k, recoveries) }) else None

-- the line with these bytes after its @: the bytes before the first space are cut at slashes
unfoldable pub reset_of : List ℕ → Option Line
reset_of bytes = do
  cut ← cut_at 32 bytes
  counts ← counts_of (split 47 cut.0)
  reset_with cut.1 counts

-- the line with these bytes, if it isn't bad
abbrev pub line_of : List ℕ → Option Line
line_of [] = Some (record { message = []; reset = None })
line_of (b ∷ bytes) = if b == 64 then reset_of bytes else Some (record { message = b ∷ bytes; reset = None })

-- the number of the first bad line, counted from 1
abbrev pub first_bad : List (List ℕ) → Option ℕ
first_bad [] = None
first_bad (l ∷ ls) = if is_none (line_of l) then Some 1 else option_map (λ n. n + 1) (first_bad ls)

-- the line of an event
abbrev pub line_in : Event → Line
line_in e = record { message = e.message.now; reset = option_map (λ c. (c.after, c.recoveries.items)) e.cut }
