-- The first free sector at a distance from track 18, where none is nearer.
use Rattle.std.proofs.Common.{arith}
use Rattle.disk_layout.proofs.bam.Bam.pick.Goals as goal
use Rattle.disk_layout.proofs.lemmas.map.Picking.{first-higher, first-lower, none-anywhere, none-there}

pub loop-distance-init : goal.loop-distance-init
loop-distance-init c = λ q off lt. absurd (omega (arith, off, lt))

pub returns-in-Some : goal.returns-in-Some
returns-in-Some c = first-lower c.args.self.now.bytes c.loop-distance.distance c.in-Some.place
    c.loop-distance.auto.distance c.loop-distance-test.true c.loop-distance.invariant c.in-Some.ensures

pub returns-in-Some-first_on : goal.returns-in-Some-first_on
returns-in-Some-first_on c = first-higher c.args.self.now.bytes c.loop-distance.distance c.in-Some-first_on.place
    c.loop-distance.auto.distance c.loop-distance-test.true c.loop-distance.invariant c.in_default.ensures
    c.in-Some-first_on.ensures

pub loop-distance-preserved : goal.loop-distance-preserved
loop-distance-preserved c = none-there c.args.self.now.bytes c.loop-distance.distance c.loop-distance.invariant
    c.in_default.ensures c.in_default-first_on.ensures

pub returns : goal.returns
returns c = none-anywhere c.args.self.now.bytes c.loop-distance.distance c.loop-distance-test.false
    c.loop-distance.invariant
