use Rattle.std.proofs.Common.{ℕ, ◌+◌, ◌<◌, ◌≤◌}
use Rattle.layout_check.specs.Marked.{IsRightTrack}
use Rattle.layout_check.proofs.maps.check_bits.Given as goal

abbrev pub invariant-loop-below : goal.invariant-loop-below
invariant-loop-below l = (n : ℕ) → n < l.below + 1 → 1 ≤ n → IsRightTrack l.map l.owners n
