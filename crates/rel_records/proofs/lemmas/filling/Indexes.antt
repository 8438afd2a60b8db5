-- The last byte of the last whole record.
use Rattle.std.proofs.Common.{◌≡◌, ℕ, ◌+◌, ◌-◌, ◌*◌, ◌/◌, ◌<◌, ◌≤◌, ap, arith}
use Rattle.std.proofs.Math.Nat.{lt-div-mul-add}
use Rattle.rel_records.proofs.lemmas.filling.Fulls.{records-inside}
use Rattle.rel_records.specs.growth.Growth.{full}

-- the index is not below the blocks before the last one
pub index-is : (L n records : ℕ) → 1 ≤ n → 1 ≤ L → L ≤ 254 → records ≡ full L n
    → (records * L + 1 - 254 * (n - 1)) + 254 * (n - 1) ≡ full L n * L + 1
index-is L n records some low high e =
    let pos : 0 < L = omega (arith, low) in
    let above : 254 * n < 254 * n / L * L + L = lt-div-mul-add pos in
    let same : records * L ≡ full L n * L = ap (λ r. r * L) e in
    omega (arith, above, same, some, high)

-- nor past the last of them
pub index-fits : (L n records : ℕ) → 1 ≤ n → 1 ≤ L → L ≤ 254 → records ≡ full L n
    → (records * L ≤ 254 * n) × (254 * (n - 1) ≤ records * L + 1)
index-fits L n records some low high e =
    let inside = records-inside L n records e in
    let is = index-is L n records some low high e in
    let same : records * L ≡ full L n * L = ap (λ r. r * L) e in
    (inside, omega (arith, is, same))
