-- Place by place: all are named so far, or one isn't.
use Rattle.std.proofs.Common.{arith, inl, inr, sym, ◌∙◌}
use borrow.Author.Count.{below_more}
use Rattle.std.proofs.lemmas.Option.{slice_get_within}
use Rattle.layout_check.proofs.lemmas.finding.Pointers.{misnamed-here, named-here, same-failed, same-passed}
use Rattle.layout_check.proofs.sides.names_each.Goals as goal

pub loop-number-preserved : goal.loop-number-preserved
loop-number-preserved c =
    let old = c.loop-number.invariant in
    record {
      right = λ t. let p = same-passed c.loop-number.same _ _ c.track.result c.sector.result t in
          below_more _ _ (old.right p.0) (named-here c.args.sector.now c.args.at c.loop-number.number c.args.places.now
          c.index-places-number.result c.loop-number-test.true c.index-places-number.is (
            p.1 ∙ c.track.ensures,
            p.2
                ∙ c.sector.ensures,
          ));
      wrong = λ f. elim (same-failed c.loop-number.same _ _ c.track.result c.sector.result f) [
        | inl e ↦ old.wrong e
        | inr n ↦ misnamed-here c.args.sector.now c.args.at c.loop-number.number c.args.places.now
            c.index-places-number.result c.loop-number-test.true c.index-places-number.is
            (λ h. elim n [ inl x ↦ x (h.0 ∙ sym c.track.ensures) | inr y ↦ y (h.1 ∙ sym c.sector.ensures) ])
      ];
    }

pub returns-clause-right : goal.returns-clause-right
returns-clause-right c t k q there =
    c.loop-number.invariant.right t k (omega (
      arith,
      c.loop-number-test.false,
      slice_get_within c.args.places.now k q there,
    )) q there

pub bounds-places-number : goal.bounds-places-number
bounds-places-number c = c.loop-number-test.true

pub offset_bounds-places-number : goal.offset_bounds-places-number
offset_bounds-places-number c = omega (arith, c.loop-number-test.true, c.requires)

pub overflow_mul-byte : goal.overflow_mul-byte
overflow_mul-byte c = omega (arith, c.loop-number-test.true, c.requires)

pub overflow_add-byte : goal.overflow_add-byte
overflow_add-byte c = omega (arith, c.loop-number-test.true, c.requires)

pub overflow_add-same : goal.overflow_add-same
overflow_add-same c = omega (arith, c.loop-number-test.true, c.requires)
