-- One sector more is the owner's.
use Rattle.std.proofs.Common.{refl, sym}
use Rattle.disk_pictures.proofs.Owning.{given-next}
use Rattle.disk_pictures.specs.Drawings.{has}
use Rattle.disk_pictures.proofs.owners.Owners.give.Goals as goal

pub loop-place-init : goal.loop-place-init
unfolding has
loop-place-init c = λ p. refl

pub loop-place-preserved : goal.loop-place-preserved
loop-place-preserved c = λ p. rw c.index.ensures.value
    (given-next c.loop-place.self.owners c.args.places.now c.loop-place.place-index
    c.place-item.result p c.args.owner _ c.loop-place.self.full c.loop-place-test.true (sym c.place-item.is)
    (c.loop-place.invariant p))
