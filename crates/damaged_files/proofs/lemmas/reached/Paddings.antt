-- The bytes up to the last one that isn't a shifted space.
use Rattle.std.proofs.Common.{◌≡◌, ◌≢◌, ◌<◌, ◌≤◌, ◌-◌, ◌⊎◌, inl, inr, ℕ, zero, suc, List, [], ◌∷◌, length, take, refl}
use Rattle.std.proofs.Common.{subst, sym, ap, ap₂, ◌∙◌, ne_eqb, arith}
use Rattle.std.specs.Prelude.{slice_index}
use Rattle.std.proofs.lemmas.List.{length-take-le}
use Rattle.damaged_files.specs.reached.Names.{name_before, unpadded}

-- shifted spaces alone are dropped
all-padding : (xs : List ℕ) → ((i : ℕ) → i < length xs → slice_index xs i ≡ 160) → unpadded xs ≡ []
unfolding unpadded
all-padding [] pad = refl
all-padding (x ∷ xs) pad =
    let rest : unpadded xs ≡ [] = all-padding xs (λ i le. pad (suc i) (omega (arith, le))) in
    ap₂ name_before (pad 0 (omega arith)) rest

kept-some : (x : ℕ) (xs : List ℕ) → x ≢ 160 → name_before x xs ≡ x ∷ xs
kept-some x [] other = rw (ne_eqb x 160 other) refl
kept-some x (y ∷ ys) other = refl

kept-long : (x : ℕ) (xs : List ℕ) → 1 ≤ length xs → name_before x xs ≡ x ∷ xs
kept-long x [] long = absurd (omega (arith, long))
kept-long x (y ∷ ys) long = refl

pub unpadded-is : (xs : List ℕ) (n : ℕ) → n ≤ length xs → ((i : ℕ) → n ≤ i → i < length xs → slice_index xs i ≡ 160)
    → (n ≡ 0) ⊎ (slice_index xs (n - 1) ≢ 160) → take n xs ≡ unpadded xs
unfolding unpadded
unpadded-is xs zero few pad last = sym (all-padding xs (λ i le. pad i (omega arith) le))
unpadded-is [] (suc n) few pad last = absurd (omega (arith, few))
unpadded-is (x ∷ xs) (suc zero) few pad last =
    let some : x ≢ 160 = elim last [
      | inl none ↦ absurd (omega (arith, none))
      | inr here ↦ here
    ] in
    let rest : unpadded xs ≡ [] = all-padding xs (λ i le. pad (suc i) (omega arith) (omega (arith, le))) in
    sym (ap (name_before x) rest ∙ kept-some x [] some)
unpadded-is (x ∷ xs) (suc (suc n)) few pad last =
    let last' : (suc n ≡ 0) ⊎ (slice_index xs (suc n - 1) ≢ 160) = elim last [
      | inl none ↦ absurd (omega (arith, none))
      | inr here ↦ inr (let next : suc (suc n) - 1 ≡ suc n = omega arith in
          let this : n ≡ suc n - 1 = omega arith in
          subst (λ (m : ℕ). slice_index xs m ≢ 160) this (subst (λ (m : ℕ). slice_index (x ∷ xs) m ≢ 160) next here))
    ] in
    let rest : take (suc n) xs ≡ unpadded xs =
    unpadded-is xs (suc n) (omega (arith, few)) (λ i le lt. pad (suc i) (omega (arith, le)) (omega (arith, lt)))
    last' in
    let long : 1 ≤ length (unpadded xs) = subst (λ (ys : List ℕ). 1 ≤ length ys) rest
    (omega (arith, length-take-le (suc n) xs (omega (arith, few)))) in
    ap (λ (ys : List ℕ). x ∷ ys) rest ∙ sym (kept-long x (unpadded xs) long)
