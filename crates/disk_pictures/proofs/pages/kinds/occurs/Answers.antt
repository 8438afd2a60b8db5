-- One sector more.
use Rattle.std.proofs.Common.{refl, ◌∙◌}
use Rattle.disk_pictures.proofs.InOrder.{any-places, any-taken}
use Rattle.disk_pictures.proofs.Opening.{or-first, or-second}
use Rattle.disk_pictures.proofs.pages.kinds.occurs.Goals as goal
use Rattle.disk_pictures.proofs.pages.kinds.occurs.Goals.{then-found, else-found}

pub loop-index-init : goal.loop-index-init
loop-index-init c = refl

pub loop-index-preserved : goal.loop-index-preserved
loop-index-preserved c = elim c.if-found.branch [
  | then-found w ↦ any-taken _ c.loop-index.index c.nth.result _ _ _ c.nth.ensures c.loop-index.invariant c.is_of-here.ensures
      (or-first _ _ _ w.if-found.true (w.found-is ∙ w.if-found.true))
  | else-found w ↦ any-taken _ c.loop-index.index c.nth.result _ _ _ c.nth.ensures c.loop-index.invariant c.is_of-here.ensures
      (or-second _ _ _ w.if-found.false w.found-is)
]

pub returns : goal.returns
returns c = any-places _ c.loop-index.index _ c.loop-index-test.false c.loop-index.invariant
