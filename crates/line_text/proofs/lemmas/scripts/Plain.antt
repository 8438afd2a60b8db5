-- Lines that don't begin with @ aren't bad.
use Rattle.std.proofs.Common.{◌≡◌, ◌+◌, ℕ, Bool, true, false, List, [], ◌∷◌, Option, Some, None, refl, ap, arith}
use Rattle.std.specs.Prelude.{◌==◌, ◌||◌, fold, option_map, if◌then◌else◌}
use Rattle.line_text.specs.scripts.Lines.{first_reset, is_reset, lines}
use Rattle.line_text.specs.scripts.Resets.{first_bad, line_of}
use Rattle.line_text.proofs.lemmas.scripts.Lines.{no_at}

-- a line that doesn't begin with @ is its own message
pub line_plain : (line : List ℕ) → is_reset line ≡ false → line_of line ≡ Some (record { message = line; reset = None })
line_plain [] other = refl
line_plain (b ∷ line) other = rw other refl

-- where no line begins with @, none is bad
none_bad : (ls : List (List ℕ)) → first_reset ls ≡ None → first_bad ls ≡ None
none_bad [] none = refl
none_bad (l ∷ ls) none = pick (is_reset l) (line_plain l) (first_reset ls) (none_bad ls) none
  where
    counted : (o : Option ℕ) → option_map (λ n. n + 1) o ≡ None → o ≡ None
    counted None e = refl
    counted (Some n) e = cc

    pick : (t : Bool) → (t ≡ false → line_of l ≡ Some (record { message = l; reset = None })) → (o : Option ℕ)
        → (o ≡ None → first_bad ls ≡ None)
        → (if t then Some 1 else option_map (λ n. n + 1) o) ≡ None → first_bad (l ∷ ls) ≡ None
    pick true plain o rest e = cc
    pick false plain o rest e = rw (plain refl, rest (counted o e)) refl

pub no_reset : (script : List ℕ) → fold (λ found b. found || b == 64) false script ≡ false
    → first_bad (lines script) ≡ None
no_reset script none = none_bad (lines script) (no_at script none)

-- no line is counted yet
pub from_zero : (o : Option ℕ) → o ≡ option_map (λ n. 0 + n) o
from_zero None = refl
from_zero (Some n) = let same : n ≡ 0 + n = omega arith in ap (λ m. Some m) same
