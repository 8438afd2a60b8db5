-- The bytes up to the last one that isn't 0.
use Rattle.std.proofs.Common.{◌≡◌, ◌≢◌, ◌≤◌, ◌-◌, ◌⊎◌, inl, inr, ℕ, zero, suc, List, [], ◌∷◌, length, take, refl, subst}
use Rattle.std.proofs.Common.{sym, ap, ap₂, ◌∙◌, arith}
use Rattle.std.specs.Prelude.{slice_index}
use Rattle.std.proofs.lemmas.List.{length-take-le}
use Rattle.line_text.specs.bytes.Texts.{kept_before, trimmed}

-- zeros alone are trimmed to nothing
pub all-zeros : (xs : List ℕ) → ((i : ℕ) → slice_index xs i ≡ 0) → trimmed xs ≡ []
unfolding trimmed
all-zeros [] zeros = refl
all-zeros (x ∷ xs) zeros =
    let rest : trimmed xs ≡ [] = all-zeros xs (λ i. zeros (suc i)) in
    ap₂ kept_before (zeros 0) rest

kept-some : (x : ℕ) (xs : List ℕ) → x ≢ 0 → kept_before x xs ≡ x ∷ xs
kept-some zero [] some = absurd (some refl)
kept-some (suc x) [] some = refl
kept-some x (y ∷ ys) some = refl

kept-long : (x : ℕ) (xs : List ℕ) → 1 ≤ length xs → kept_before x xs ≡ x ∷ xs
kept-long x [] long = absurd (omega (arith, long))
kept-long x (y ∷ ys) long = refl

pub trim-is : (xs : List ℕ) (n : ℕ) → n ≤ length xs → ((i : ℕ) → n ≤ i → slice_index xs i ≡ 0)
    → (n ≡ 0) ⊎ (slice_index xs (n - 1) ≢ 0) → take n xs ≡ trimmed xs
unfolding trimmed
trim-is xs zero few zeros last = sym (all-zeros xs (λ i. zeros i (omega arith)))
trim-is [] (suc n) few zeros last = absurd (omega (arith, few))
trim-is (x ∷ xs) (suc zero) few zeros last =
    let some : x ≢ 0 = elim last [
      | inl none ↦ absurd (omega (arith, none))
      | inr here ↦ here
    ] in
    let rest : trimmed xs ≡ [] = all-zeros xs (λ i. zeros (suc i) (omega arith)) in
    sym (ap (kept_before x) rest ∙ kept-some x [] some)
trim-is (x ∷ xs) (suc (suc n)) few zeros last =
    let last' : (suc n ≡ 0) ⊎ (slice_index xs (suc n - 1) ≢ 0) = elim last [
      | inl none ↦ absurd (omega (arith, none))
      | inr here ↦ inr (let next : suc (suc n) - 1 ≡ suc n = omega arith in
          let this : n ≡ suc n - 1 = omega arith in
          subst (λ (m : ℕ). slice_index xs m ≢ 0) this (subst (λ (m : ℕ). slice_index (x ∷ xs) m ≢ 0) next here))
    ] in
    let rest : take (suc n) xs ≡ trimmed xs =
    trim-is xs (suc n) (omega (arith, few)) (λ i le. zeros (suc i) (omega (arith, le))) last' in
    let long : 1 ≤ length (trimmed xs) = subst (λ (ys : List ℕ). 1 ≤ length ys) rest
    (omega (arith, length-take-le (suc n) xs (omega (arith, few)))) in
    ap (λ (ys : List ℕ). x ∷ ys) rest ∙ sym (kept-long x (trimmed xs) long)

kept-short : (x : ℕ) (xs : List ℕ) → length (kept_before x xs) ≤ suc (length xs)
kept-short zero [] = omega arith
kept-short (suc x) [] = omega arith
kept-short x (y ∷ ys) = omega arith

-- no bytes more
pub trimmed-short : (xs : List ℕ) → length (trimmed xs) ≤ length xs
unfolding trimmed
trimmed-short [] = omega arith
trimmed-short (x ∷ xs) = omega (arith, trimmed-short xs, kept-short x (trimmed xs))
