-- Sector by sector.
use Rattle.std.proofs.Common.{[], ◌++◌, ap₂, arith, length-append, refl, sym, ◌∙◌, ◌+◌}
use Rattle.layout_check.proofs.lemmas.owners.Marking.{places-end, places-more, places-start}
use Rattle.layout_check.proofs.keeping.mark_strays.Goals as goal

pub loop-index-init : goal.loop-index-init
loop-index-init c = record {
  marked = ([], places-start c.args.map.now c.args.owners.now, refl);
  few = omega arith;
}

pub overflow_add-count : goal.overflow_add-count
overflow_add-count c = omega (arith, c.loop-index.invariant.few, c.loop-index-test.true, c.mark_place-count.ensures.one)

pub loop-index-preserved : goal.loop-index-preserved
loop-index-preserved c =
    let (ps, so_far, long) = c.loop-index.invariant.marked in
    let (qs, here, more) = c.mark_place-count.ensures.marked in
    record {
      marked = (
        ps ++ qs,
        places-more _ _ _ _ c.loop-index.index c.nth.result ps qs c.nth.ensures so_far here,
        ap₂ (λ x y. x + y) long more ∙ sym (length-append ps qs),
      );
      few = omega (arith, c.loop-index.invariant.few, c.mark_place-count.ensures.one);
    }

pub returns : goal.returns
returns c =
    let (ps, so_far, long) = c.loop-index.invariant.marked in
    record { marked = (ps, places-end _ _ _ c.loop-index.index ps c.loop-index-test.false so_far, long) }
