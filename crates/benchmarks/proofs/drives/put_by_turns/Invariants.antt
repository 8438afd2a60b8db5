use Rattle.std.proofs.Common.{◌≤◌}
use Rattle.benchmarks.proofs.drives.put_by_turns.Given as goal

abbrev pub invariant-loop-round : goal.invariant-loop-round
invariant-loop-round g l = l.number ≤ 9256
