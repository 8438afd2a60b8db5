use Rattle.std.proofs.Common.{take}
use Rattle.layout_check.specs.Owners.{IsClaimed}
use Rattle.layout_check.proofs.owners.Owners.claim.Given as goal

abbrev pub invariant-loop-place : goal.invariant-loop-place
invariant-loop-place l = IsClaimed l.fn.self l.self l.number (take l.place-index l.places)
