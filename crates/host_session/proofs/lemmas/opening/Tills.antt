-- A till's place in a table, which begins at place 0.
use Rattle.std.proofs.Common.{◌≡◌, ◌+◌, ◌-◌, ◌<◌, ◌≤◌, ℕ, ap, arith, sym}

pub place-up : (from till : ℕ) → from ≡ till → 1 ≤ till → (from - 1) + 1 ≡ till
place-up from till same low = omega (arith, same, low)

pub place-down : (from till : ℕ) → from ≡ till → till - 1 ≡ from - 1
place-down from till same = ap (λ (n : ℕ). n - 1) (sym same)

pub place-high : (from till : ℕ) → from ≡ till → 1 ≤ till → till ≤ 64 → from - 1 < 64
place-high from till same low high = omega (arith, same, low, high)
