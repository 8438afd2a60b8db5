use Rattle.std.proofs.Common.{◌<◌, ◌↔◌, ℕ, IsTrue, get_or}
use Rattle.std.specs.Int.{IsInRange}
use Rattle.request_cards.proofs.fixed.are_digits.Given as goal

-- whether the bytes so far are digits
abbrev pub invariant-loop-b : goal.invariant-loop-b
invariant-loop-b l = IsTrue l.all ↔ ((k : ℕ) → k < l.b-index → IsInRange 48 57 (get_or l.field k 0))
