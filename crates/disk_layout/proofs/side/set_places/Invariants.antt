use Rattle.std.proofs.Common.{◌≡◌}
use Rattle.disk_layout.proofs.lemmas.lists.Listed.{written}
use Rattle.disk_layout.proofs.side.set_places.Given as goal

abbrev pub invariant-loop-i : goal.invariant-loop-i
invariant-loop-i l = l.bytes ≡ written l.fn.bytes l.at l.places l.i
