use Rattle.std.proofs.Common.{◌≡◌, ◌<◌, ◌+◌, ℕ, get_or}
use Rattle.request_cards.proofs.request_card.reading.zeros_at.Given as goal

-- the bytes so far are zeros
abbrev pub invariant-loop-i : goal.invariant-loop-i
invariant-loop-i l = (k : ℕ) → k < l.i → get_or l.bytes (l.at + k) 0 ≡ 0
