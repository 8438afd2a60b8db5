-- Place by place: what was claimed so far, or a place that had an owner before.
use Rattle.std.proofs.Common.{sym, ◌∙◌, refl}
use Rattle.layout_check.proofs.lemmas.owners.Claims.{claim-step, clash-step, claim-all}
use Rattle.layout_check.proofs.owners.Owners.claim.Goals as goal

pub returns-then-owner-clause-err : goal.returns-then-owner-clause-err
returns-then-owner-clause-err c = let h = clash-step c.args.self.now c.loop-place.self c.args.number
    c.loop-place.place-index c.args.places.now c.place-item.result c.loop-place-test.true c.place-item.is
    c.requires.once c.loop-place.invariant (λ e. c.if-owner.true (c.owner.ensures ∙ e)) in
    (c.place-item.result, refl, h.0, h.1)

pub loop-place-preserved : goal.loop-place-preserved
loop-place-preserved c = claim-step c.args.self.now c.loop-place.self c.set.new.self c.args.number
    c.loop-place.place-index c.args.places.now c.place-item.result c.loop-place-test.true c.place-item.is
    c.requires.once c.loop-place.invariant (sym c.owner.ensures ∙ c.if-owner.false) c.set.ensures.here
    c.set.ensures.there

pub returns-clause-ok : goal.returns-clause-ok
returns-clause-ok c = claim-all c.args.self.now c.loop-place.self c.args.number c.loop-place.place-index
    c.args.places.now c.loop-place-test.false c.loop-place.invariant
