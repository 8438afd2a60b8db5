-- How many whole records go into blocks, and where the last one ends.
use Rattle.std.proofs.Common.{◌≡◌, ℕ, ◌+◌, ◌*◌, ◌/◌, ◌<◌, ◌≤◌, arith, subst, sym}
use Rattle.std.proofs.Math.Nat.{div-le_self, div-mul-le_self, lt-div-mul-add}
use Rattle.std.proofs.lemmas.Nat.{le-div}
use Rattle.rel_records.specs.growth.Growth.{full}

-- the whole records end within the blocks
pub full-inside : (L n : ℕ) → full L n * L ≤ 254 * n
full-inside L n = div-mul-le_self (254 * n) L

-- the same of their number under another name
pub records-inside : (L n records : ℕ) → records ≡ full L n → records * L ≤ 254 * n
records-inside L n records e = subst (λ r. r * L ≤ 254 * n) (sym e) (full-inside L n)

-- no more records than bytes
pub records-few : (L n records : ℕ) → records ≡ full L n → records ≤ 254 * n
records-few L n records e = subst (λ r. r ≤ 254 * n) (sym e) (div-le_self (254 * n) L)

-- and past the last but one
pub full-last : (L n : ℕ) → 0 < L → L ≤ 254 → 254 * n < full L (n + 1) * L + 1
full-last L n pos few =
    let above : 254 * (n + 1) < 254 * (n + 1) / L * L + L = lt-div-mul-add pos in
    omega arith

-- a block more has a record more
pub full-more : (L n : ℕ) → 0 < L → L ≤ 254 → full L n < full L (n + 1)
full-more L n pos few =
    let one : (full L n + 1) * L ≡ full L n * L + L = grind arith in
    let low : full L n + 1 ≤ 254 * (n + 1) / L = le-div (full L n + 1) (254 * (n + 1)) L pos
    (omega (arith, full-inside L n, one)) in
    omega arith
