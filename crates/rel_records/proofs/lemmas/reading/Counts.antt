-- What it says that a file hasn't so many records.
use Rattle.std.proofs.Common.{Bool, IsTrue, false, ⊎_elim, ℕ, ◌<◌, ◌↔◌, ◌≡◌, ◌≤◌}
use Rattle.std.proofs.lemmas.Bool.{cases_lt}

pub fewer : (b : Bool) (r n : ℕ) → (IsTrue b ↔ (n ≤ r)) → b ≡ false → r < n
fewer b r n tells not = ⊎_elim
    (λ (less : r < n). less)
    (λ (le : n ≤ r). let yes : IsTrue b = tells.1 le in absurd (cc))
    (cases_lt r n)
