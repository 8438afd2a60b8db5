-- A number below the next one.
use Rattle.std.proofs.Common.{◌≡◌, ◌<◌, ◌+◌, ◌⊎◌, arith, inl, inr, ℕ}
use Rattle.std.proofs.lemmas.Bool.{cases_lt}

pub below-or-here : (m n : ℕ) → m < n + 1 → (m < n) ⊎ (m ≡ n)
below-or-here m n lt = elim (cases_lt m n) [ inl low ↦ inl low | inr high ↦ inr (omega (arith, lt, high)) ]
