-- The tag is taken off, if there is one.
use Rattle.std.proofs.Common.{◌≡◌, ◌∙◌, ℕ, List, ap, arith, subst, sym}
use Rattle.std.proofs.lemmas.Bool.{false≢true}
use Rattle.image_log.specs.life.Mixes.{IsTorn}
use Rattle.image_log.specs.life.Tags.{blanked}
use Rattle.image_log.proofs.lemmas.life.Tagged.{none_off, taken_off, taken_torn}
use Rattle.image_log.proofs.life.tags.take_tag.Goals as goal

pub returns-then-not-is_tagged-clause-is : goal.returns-then-not-is_tagged-clause-is
returns-then-not-is_tagged-clause-is c =
    sym (none_off c.args.sector.now (λ is. false≢true (sym c.if-not-is_tagged.true ∙ c.is_tagged.ensures.1 is)))

pub returns-clause-is : goal.returns-clause-is
returns-clause-is c =
    let last : c.loop-j.j ≡ 8 = omega (arith, c.loop-j.auto.j-end, c.loop-j-test.false) in
    c.loop-j.invariant ∙ ap (blanked c.args.sector.now) last
    ∙ sym (taken_off c.args.sector.now (c.is_tagged.ensures.0 c.if-not-is_tagged.false))

pub returns-clause-torn : goal.returns-clause-torn
returns-clause-torn c is torn mix =
    taken_torn c.args.sector.now torn c.told-sector (c.is_tagged.ensures.0 c.if-not-is_tagged.false)
    (subst (λ (new : List ℕ). IsTorn c.args.sector.now new torn) (returns-clause-is c) mix)
