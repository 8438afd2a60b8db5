-- One sector more.
use Rattle.std.proofs.Common.{◌≡◌, ◌+◌, List, min, subst, sym}
use Rattle.std.proofs.lemmas.List.{take_all}
use Rattle.d64_image.specs.declared.place.Place.{Place}
use Rattle.damaged_files.proofs.lemmas.reached.Counts.{count-next, count-none}
use Rattle.damaged_files.specs.reached.Owned.{owners_at}
use Rattle.damaged_files.specs.reached.Sharing.{count_at}
use Rattle.damaged_files.proofs.reached.sharing.Owners.add.Goals as goal

pub loop-place-init : goal.loop-place-init
loop-place-init c = λ i. count-none i (owners_at c.args.self.now i)

pub loop-place-preserved : goal.loop-place-preserved
loop-place-preserved c = λ i. count-next i c.loop-place.place-index c.args.places.now c.place-item.result _ _ _
    c.loop-place-test.true (sym c.place-item.is) (c.loop-place.invariant i) (c.add_one.ensures i)

pub returns : goal.returns
returns c = λ i.
    subst (λ (ps : List Place). min 2 (owners_at c.loop-place.self i)
    ≡ min 2 (owners_at c.args.self.now i + count_at i ps))
    (take_all c.loop-place.place-index c.args.places.now c.loop-place-test.false) (c.loop-place.invariant i)
