-- Sums over the numbers below n.
use Rattle.std.proofs.Common.{add-one, arith, inl, inr, refl, suc, sym, zero, ℕ, ◌+◌, ◌<◌, ◌∙◌, ◌≡◌, ◌≢◌}
use Rattle.std.proofs.lemmas.Bool.{cases_eq}
use Rattle.std.proofs.lemmas.List.Sums.{sum_by-cons}
use Rattle.std.specs.Prelude.{sum_by}
use Rattle.disk_layout.specs.Map.{numbers_below}

-- a sum over the numbers below n, and one more
pub sum_more : (f : ℕ → ℕ) (n total next : ℕ) → total ≡ sum_by f (numbers_below n) → next ≡ f n
    → total + next ≡ sum_by f (numbers_below (n + 1))
sum_more f n total next so_far here = rw add-one (omega (arith, so_far, here, sum_by-cons f n (numbers_below n)))

pub sum-same : (f g : ℕ → ℕ) (n : ℕ) → ((k : ℕ) → k < n → f k ≡ g k)
    → sum_by f (numbers_below n) ≡ sum_by g (numbers_below n)
sum-same f g zero e = refl
sum-same f g (suc n) e = sum_by-cons f n (numbers_below n)
    ∙ cc (e n (omega arith), sum-same f g n (λ k h. e k (omega arith))) ∙ sym (sum_by-cons g n (numbers_below n))

-- at one of the numbers the first is greater by one
pub sum-less : (f g : ℕ → ℕ) (n s : ℕ) → s < n → f s ≡ g s + 1 → ((k : ℕ) → k < n → k ≢ s → f k ≡ g k)
    → sum_by f (numbers_below n) ≡ sum_by g (numbers_below n) + 1
sum-less f g zero s h e same = absurd (omega arith)
sum-less f g (suc n) s h e same = elim (cases_eq n s) [
  | inl i ↦ let rest = sum-same f g n (λ k lt. same k (omega arith) (omega arith)) in
      omega (arith, sum_by-cons f n (numbers_below n), sum_by-cons g n (numbers_below n), rest, rw (← i) at e)
  | inr ne ↦ let rest = sum-less f g n s (omega arith) e (λ k lt. same k (omega arith)) in
      omega (arith, sum_by-cons f n (numbers_below n), sum_by-cons g n (numbers_below n), rest, same n (omega arith) ne)
]

-- a sum of zeros
pub sum-zero : (f : ℕ → ℕ) (n : ℕ) → ((k : ℕ) → k < n → f k ≡ 0) → sum_by f (numbers_below n) ≡ 0
sum-zero f zero none = refl
sum-zero f (suc n) none = sum_by-cons f n (numbers_below n)
    ∙ omega (arith, none n (omega arith), sum-zero f n (λ k h. none k (omega arith)))

-- two sums in one
pub sum-plus : (f g : ℕ → ℕ) (n : ℕ) → sum_by (λ k. f k + g k) (numbers_below n) ≡ sum_by f (numbers_below n)
    + sum_by g (numbers_below n)
sum-plus f g zero = refl
sum-plus f g (suc n) = omega (
  arith,
  sum_by-cons (λ k. f k + g k) n (numbers_below n),
  sum_by-cons f n (numbers_below n),
  sum_by-cons g n (numbers_below n),
  sum-plus f g n,
)
