-- One sector after another, up to the last one, to one that isn't there, or to as many as an image has.
use Rattle.std.proofs.Common.{◌∙◌, arith, refl, sym}
use Rattle.std.proofs.lemmas.Bool.{eq-eqb}
use Rattle.long_chains.specs.Sectors.{HasSector}
use Rattle.long_chains.proofs.Sizes.{few, inside}
use Rattle.long_chains.proofs.Walked.{all-more, ends-nowhere, ends-there, first-byte, goes-on, leads-nowhere, no-zero}
use Rattle.long_chains.proofs.chains.long_chain.Goals as goal

pub returns-in_default-clause-value : goal.returns-in_default-clause-value
returns-in_default-clause-value c =
    leads-nowhere c.args.image.now _ c.walk.chain.items c.walk.link.0 c.walk.link.1 c.walk.invariant.so_far
    (omega (arith, c.walk-test.true, c.len.ensures.value)) (sym c.sector_at.ensures.value ∙ c.in_default.is)

pub overflow_cast-number : goal.overflow_cast-number
overflow_cast-number c = omega (arith, few c.args.image.now c.in-Some.number c.in-Some.ensures.inside)

pub overflow_mul-start : goal.overflow_mul-start
overflow_mul-start c = omega (arith, few c.args.image.now c.in-Some.number c.in-Some.ensures.inside)

pub bounds-image-start : goal.bounds-image-start
bounds-image-start c = omega (arith, inside c.args.image.now c.in-Some.number c.in-Some.ensures.inside)

pub bounds-image-start-in-walk-2 : goal.bounds-image-start-in-walk-2
bounds-image-start-in-walk-2 c = omega (arith, inside c.args.image.now c.in-Some.number c.in-Some.ensures.inside)

pub returns-then-image-start-eq0-clause-value : goal.returns-then-image-start-eq0-clause-value
returns-then-image-start-eq0-clause-value c =
    ends-there c.args.image.now _ c.walk.chain.items c.walk.link.0 c.walk.link.1 c.walk.invariant.so_far c.in-Some.number
    c.push.new.self.items (omega (arith, c.walk-test.true, c.len.ensures.value))
    (sym c.sector_at.ensures.value ∙ c.in-Some.is)
    (eq-eqb _ 0 (sym (first-byte c.args.image.now c.in-Some.number) ∙ c.if-image-start-eq0.true)) c.push.ensures.items

pub walk-preserved : goal.walk-preserved
walk-preserved c = record {
  so_far = goes-on c.args.image.now _ c.walk.chain.items c.walk.link.0 c.walk.link.1 c.walk.invariant.so_far
      c.in-Some.number c.push.new.self.items _ _ (omega (arith, c.walk-test.true, c.len.ensures.value))
      (sym c.sector_at.ensures.value ∙ c.in-Some.is)
      (no-zero _ (λ e. c.if-image-start-eq0.false (first-byte c.args.image.now c.in-Some.number ∙ e))) c.push.ensures.items
      (first-byte c.args.image.now c.in-Some.number) refl;
  inside = all-more (HasSector c.args.image.now) c.walk.chain.items c.push.new.self.items c.in-Some.number
      c.walk.invariant.inside c.in-Some.ensures.inside c.push.ensures.items;
}

pub returns-clause-value : goal.returns-clause-value
returns-clause-value c =
    ends-nowhere c.args.image.now _ c.walk.chain.items c.walk.link.0 c.walk.link.1 c.walk.invariant.so_far
    (omega (arith, c.walk-test.false, c.len.ensures.value))
