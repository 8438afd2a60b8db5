-- The bytes up to the last one that isn't 00.
use Rattle.std.proofs.Common.{
  ℕ,
  suc,
  ◌≡◌,
  ◌≢◌,
  ◌≤◌,
  ◌-◌,
  ◌+◌,
  ◌⊎◌,
  inl,
  inr,
  List,
  [],
  ◌∷◌,
  ◌++◌,
  length,
  take,
  drop,
  replicate,
  slice_index,
  sym,
  ◌∙◌,
  ap,
  ap₂,
  refl,
  arith,
}
use Rattle.std.proofs.lemmas.List.{get_or-drop, get_or-take, length-take, take-append-drop}
use Rattle.drive_channels.specs.Given.{IsGiven}

zeros-are : (xs : List ℕ) → ((i : ℕ) → slice_index xs i ≡ 0) → xs ≡ replicate (length xs) 0
zeros-are [] h = refl
zeros-are (x ∷ xs) h = ap₂ (λ (y : ℕ) (ys : List ℕ). y ∷ ys) (h 0) (zeros-are xs (λ i. h (suc i)))

pub given-of : (xs : List ℕ) (n : ℕ) → 1 ≤ n → n ≤ length xs → ((i : ℕ) → n ≤ i → slice_index xs i ≡ 0)
    → (n ≡ 1) ⊎ (slice_index xs (n - 1) ≢ 0) → IsGiven xs (take n xs)
given-of xs n low high zeros last =
    let long : length (take n xs) ≡ n = omega (arith, length-take n xs) in
    record {
      count = length (drop n xs);
      zeros = sym (take-append-drop n xs)
          ∙ ap (λ (ys : List ℕ). take n xs ++ ys) (zeros-are (drop n xs) (λ i. get_or-drop n xs i 0
          ∙ zeros (n + i) (omega arith)));
      some = omega (arith, long, low);
      ends = rw long (elim last [
        | inl one ↦ inl one
        | inr other ↦ inr (λ z. other (sym (get_or-take n xs (n - 1) 0 (omega (arith, low))) ∙ z))
      ]);
    }
