-- The disk has each of these sectors.
use Rattle.std.proofs.Common.{arith, ◌+◌, ◌-◌}
use Rattle.std.proofs.lemmas.Bool.Decides.{nat_tests}
use Rattle.disk_layout.proofs.blank.request_place.Goals as goal
use Rattle.disk_layout.proofs.lemmas.blank.Blanks.{has-sector, request-at}

pub known-requires : goal.known-requires
known-requires c = has-sector 17 2 (omega arith)

pub known-requires-in-1-to-17 : goal.known-requires-in-1-to-17
known-requires-in-1-to-17 c = has-sector 17 (c.args.number + 3) (omega (arith, c.in-1-to-17))

pub known-requires-in_default : goal.known-requires-in_default
known-requires-in_default c = has-sector 19 (c.args.number - 18) (omega (arith, c.requires))

pub returns-in-0 : goal.returns-in-0
returns-in-0 c = request-at _ _ _ c.known.result c.known.ensures (grind (arith, nat_tests, c.in-0.is))

pub returns-in-1-to-17 : goal.returns-in-1-to-17
returns-in-1-to-17 c = request-at _ _ _ c.known-in-1-to-17.result c.known-in-1-to-17.ensures
    (grind (arith, nat_tests, c.in-1-to-17))

pub returns-in_default : goal.returns-in_default
returns-in_default c = request-at _ _ _ c.known-in_default.result c.known-in_default.ensures
    (grind (arith, nat_tests, c.in_default))
