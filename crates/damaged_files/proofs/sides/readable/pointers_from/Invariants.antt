use Rattle.std.proofs.Common.{◌≤◌}
use Rattle.damaged_files.proofs.sides.readable.pointers_from.Given as goal

abbrev pub invariant-loop-number : goal.invariant-loop-number
invariant-loop-number l = l.count ≤ l.number
