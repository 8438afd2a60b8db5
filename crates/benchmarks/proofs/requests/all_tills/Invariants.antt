use Rattle.std.proofs.Common.{length, ◌≡◌}
use Rattle.benchmarks.proofs.requests.all_tills.Given as goal

abbrev pub invariant-loop-below : goal.invariant-loop-below
invariant-loop-below l = length l.tills.items ≡ l.below
