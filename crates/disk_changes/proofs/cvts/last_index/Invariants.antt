-- The last index of the records so far.
use Rattle.std.proofs.Common.{◌≡◌}
use Rattle.disk_changes.specs.Cvts.{last_index}
use Rattle.disk_changes.proofs.cvts.last_index.Given as goal

abbrev pub invariant-loop-number : goal.invariant-loop-number
invariant-loop-number l = l.last ≡ last_index l.bytes l.number
