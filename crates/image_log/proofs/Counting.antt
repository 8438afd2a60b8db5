-- A block of which each byte is a zero or the one that was written counts only if all of it is there.
use Rattle.std.proofs.Common.{◌≡◌, ◌≢◌, ◌⊎◌, ℕ, zero, suc, ◌+◌, ◌-◌, ◌<◌, ◌≤◌, true, cond, eqb, List, slice_index}
use Rattle.std.proofs.Common.{refl, sym, ◌∙◌, ap, inl, inr, arith, length, ext_get_or}
use Rattle.std.proofs.lemmas.Bool.{cases_eq, cases_lt, cond-true, cond-false, eq-eqb, ne_eqb, eqb-true}
use Rattle.image_log.specs.Blocks.{counts, pair_at, zeros_in}

-- a is 0, or b
abbrev pub Faint : ℕ → ℕ → Type 0
Faint a b = (a ≡ 0) ⊎ (a ≡ b)

abbrev bit : ℕ → ℕ
bit a = cond (eqb a 0) 1 0

bit_of : (a : ℕ) → ((a ≡ 0) × (bit a ≡ 1)) ⊎ ((a ≢ 0) × (bit a ≡ 0))
bit_of a = elim (cases_eq a 0) [
  | inl none ↦ inl (none, cond-true _ 1 0 (eq-eqb a 0 none))
  | inr some ↦ inr (some, cond-false _ 1 0 (ne_eqb a 0 some))
]

faint_bits : (a b : ℕ) → Faint a b → (bit b ≤ bit a) × (bit a ≤ bit b → a ≡ b)
faint_bits a b h =
    elim (bit_of a) [
      | inl x ↦ elim (bit_of b) [ inl y ↦ (omega arith, λ few. omega arith) | inr y ↦ (omega arith, λ few. omega arith) ]
      | inr x ↦ elim (bit_of b) [ inl y ↦ (omega arith, λ few. omega arith) | inr y ↦ (omega arith, λ few. omega arith) ]
    ]

pub all_zeros : (b : List ℕ) (at n : ℕ) → ((i : ℕ) → i < n → slice_index b (at + i) ≡ 0) → zeros_in b at n ≡ n
unfolding zeros_in
all_zeros b at zero h = refl
all_zeros b at (suc n) h =
    let here = cond-true {A = ℕ} (eqb (slice_index b (at + n)) 0) 1 0 (eq-eqb _ 0 (h n (omega arith))) in
    omega (arith, all_zeros b at n (λ i low. h i (omega arith)), here)

-- zeros alone don't count
pub blank_counts : (b : List ℕ) → ((i : ℕ) → i < 4096 → slice_index b i ≡ 0) → counts b ≢ true
blank_counts b h is =
    let same = eqb-true (pair_at b 0) (zeros_in b 2 4094) is in
    let many = all_zeros b 2 4094 (λ i low. h (2 + i) (omega arith)) in
    omega (arith, same, many, h 0 (omega arith), h 1 (omega arith))

module _ (x y : List ℕ) where
  more_zeros : (at n : ℕ) → ((i : ℕ) → i < n → Faint (slice_index x (at + i)) (slice_index y (at + i)))
      → zeros_in y at n ≤ zeros_in x at n
  unfolding zeros_in
  more_zeros at zero h = omega arith
  more_zeros at (suc n) h = omega (arith, more_zeros at n (λ i low. h i (omega arith)), (faint_bits _ _ (h n (omega arith))).0)

  same_zeros : (at n : ℕ) → ((i : ℕ) → i < n → Faint (slice_index x (at + i)) (slice_index y (at + i)))
      → zeros_in x at n ≤ zeros_in y at n → (i : ℕ) → i < n → slice_index x (at + i) ≡ slice_index y (at + i)
  unfolding zeros_in
  same_zeros at zero h few i low = absurd (omega arith)
  same_zeros at (suc n) h few i low =
      let bits = faint_bits _ _ (h n (omega arith)) in
      let before = more_zeros at n (λ j below. h j (omega arith)) in
      elim (cases_eq i n) [
        | inl last ↦ rw last (bits.1 (omega arith))
        | inr other ↦ same_zeros at n (λ j below. h j (omega arith)) (omega (arith, bits.0)) i (omega arith)
      ]

  -- Each byte of a block is a zero or the one that was written, and both count: then all of it is there.
  pub all_or_nothing : length x ≡ 4096 → length y ≡ 4096
      → ((i : ℕ) → i < 4096 → Faint (slice_index x i) (slice_index y i)) → counts x ≡ true → counts y ≡ true → x ≡ y
  all_or_nothing long_x long_y h ours theirs =
      let here = eqb-true (pair_at x 0) (zeros_in x 2 4094) ours in
      let there = eqb-true (pair_at y 0) (zeros_in y 2 4094) theirs in
      let behind = λ (k : ℕ) (few : k < 4094). h (2 + k) (omega arith) in
      let more = more_zeros 2 4094 behind in
      let first = h 0 (omega arith) in
      let second = h 1 (omega arith) in
      let is0 : slice_index x 0 ≡ slice_index y 0 = omega (arith, here, there, more, first, second) in
      let is1 : slice_index x 1 ≡ slice_index y 1 = omega (arith, here, there, more, first, second) in
      let few : zeros_in x 2 4094 ≤ zeros_in y 2 4094 = omega (arith, here, there, is0, is1) in
      ext_get_or 0 x y (long_x ∙ sym long_y) (λ i low. elim (cases_lt i 2) [
        | inl head ↦ elim (cases_eq i 0) [
          | inl none ↦ rw none is0
          | inr some ↦ let one : i ≡ 1 = omega arith in rw one is1
        ]
        | inr tail ↦
            let at : 2 + (i - 2) ≡ i = omega arith in
            ap (slice_index x) (sym at) ∙ same_zeros 2 4094 behind few (i - 2) (omega (arith, low, long_x)) ∙ ap (slice_index y) at
      ])

-- equal bytes count alike
pub zeros_alike : (x y : List ℕ) (at n : ℕ) → ((i : ℕ) → i < n → slice_index x (at + i) ≡ slice_index y (at + i))
    → zeros_in x at n ≡ zeros_in y at n
unfolding zeros_in
zeros_alike x y at zero h = refl
zeros_alike x y at (suc n) h =
    ap (λ k. k + bit (slice_index x (at + n))) (zeros_alike x y at n (λ i low. h i (omega arith)))
    ∙ ap (λ k. zeros_in y at n + bit k) (h n (omega arith))

pub zeros_none : (b : List ℕ) (at : ℕ) → zeros_in b at 0 ≡ 0
unfolding zeros_in
zeros_none b at = refl

pub zeros_more : (b : List ℕ) (at n : ℕ) → slice_index b (at + n) ≡ 0 → zeros_in b at (n + 1) ≡ zeros_in b at n + 1
unfolding zeros_in
zeros_more b at n is =
    let e : n + 1 ≡ suc n = omega arith in
    ap (zeros_in b at) e ∙ ap (λ k. zeros_in b at n + k) (cond-true (eqb (slice_index b (at + n)) 0) 1 0 (eq-eqb _ 0 is))

pub zeros_same : (b : List ℕ) (at n : ℕ) → slice_index b (at + n) ≢ 0 → zeros_in b at (n + 1) ≡ zeros_in b at n
unfolding zeros_in
zeros_same b at n isnt =
    let e : n + 1 ≡ suc n = omega arith in
    ap (zeros_in b at) e ∙ ap (λ k. zeros_in b at n + k) (cond-false (eqb (slice_index b (at + n)) 0) 1 0 (ne_eqb _ 0 isnt))
    ∙ (omega arith)
