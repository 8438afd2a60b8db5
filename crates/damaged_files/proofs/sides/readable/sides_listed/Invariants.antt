use Rattle.std.proofs.Common.{◌≤◌}
use Rattle.damaged_files.proofs.sides.readable.sides_listed.Given as goal

abbrev pub invariant-loop-number : goal.invariant-loop-number
invariant-loop-number l = l.count ≤ l.number
