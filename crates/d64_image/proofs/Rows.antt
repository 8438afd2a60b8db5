-- The table of the sectors below each track, row by row.
use Rattle.std.proofs.Common.{
  ℕ,
  zero,
  suc,
  Bool,
  true,
  false,
  ◌≡◌,
  ◌<◌,
  ◌∷◌,
  [],
  List,
  refl,
  sym,
  subst,
  ⊎_elim,
  nat_eq,
  if◌then◌else◌,
  slice_index_or,
  le_of_suc-le-suc,
  arith,
}
use Rattle.std.proofs.lemmas.Bool.Decides.{nat_tests}
use Rattle.std.proofs.Math.Nat.{eq-or-lt_of_le}
use Rattle.d64_image.specs.Geometry.{sectors_below}

abbrev pub rows : List ℕ
rows = 0 ∷ 0 ∷ 21 ∷ 42 ∷ 63 ∷ 84 ∷ 105 ∷ 126 ∷ 147 ∷ 168 ∷ 189 ∷ 210 ∷ 231 ∷ 252 ∷ 273 ∷ 294 ∷ 315 ∷ 336 ∷ 357 ∷ 376 ∷
    395 ∷ 414 ∷ 433 ∷ 452 ∷ 471 ∷ 490 ∷ 508 ∷ 526 ∷ 544 ∷ 562 ∷ 580 ∷ 598 ∷ 615 ∷ 632 ∷ 649 ∷ 666 ∷ []

-- whether the rows below n are right
are_right : ℕ → Bool
are_right zero = true
are_right (suc n) = if nat_eq (slice_index_or rows n 0) (sectors_below n) then are_right n else false

all_right : are_right 36 ≡ true
unfolding are_right sectors_below
all_right = refl

both : (a b : ℕ) (rest : Bool) → (if nat_eq a b then rest else false) ≡ true → (a ≡ b) × (rest ≡ true)
both a b rest right = (grind (arith, nat_tests), grind (arith, nat_tests))

row_of : (n : ℕ) → are_right n ≡ true → (t : ℕ) → t < n → slice_index_or rows t 0 ≡ sectors_below t
unfolding are_right
row_of zero right t lt = absurd (omega (arith, lt))
row_of (suc n) right t lt =
    let parts = both (slice_index_or rows n 0) (sectors_below n) (are_right n) right in
    ⊎_elim
    (λ (e : t ≡ n). subst (λ (u : ℕ). slice_index_or rows u 0 ≡ sectors_below u) (sym e) parts.0)
    (λ (less : t < n). row_of n parts.1 t less)
    (eq-or-lt_of_le (le_of_suc-le-suc lt))

pub row : (t : ℕ) → t < 36 → slice_index_or rows t 0 ≡ sectors_below t
row = row_of 36 all_right
