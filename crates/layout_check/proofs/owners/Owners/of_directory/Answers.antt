-- The map's sector, and then the directory's one by one.
use Rattle.layout_check.proofs.lemmas.owners.Claims.{system-all, system-step}
use Rattle.layout_check.proofs.owners.Owners.of_directory.Goals as goal

pub loop-place-preserved : goal.loop-place-preserved
loop-place-preserved c = system-step c.loop-place.owners c.set-in-loop-place.new.self c.loop-place.place-index
    c.args.directory.now c.place-item.result c.loop-place-test.true c.place-item.is c.loop-place.invariant
    c.set-in-loop-place.ensures.here c.set-in-loop-place.ensures.there

pub returns : goal.returns
returns c = system-all c.loop-place.owners c.loop-place.place-index c.args.directory.now c.loop-place-test.false
    c.loop-place.invariant
