use Rattle.std.proofs.Common.{◌+◌}
use Rattle.layout_check.proofs.lemmas.mending.Makings.{IsMadeBelow}
use Rattle.layout_check.proofs.mending.map_of.Given as goal

abbrev pub invariant-loop-below : goal.invariant-loop-below
invariant-loop-below l = IsMadeBelow l.old l.map.bytes l.owners (l.below + 1)
