-- One byte more.
use Rattle.std.proofs.Common.{arith, ◌∙◌}
use Rattle.disk_pictures.proofs.Opening.{any-all, any-more, any-none, or-first, or-second}
use Rattle.disk_pictures.specs.Comparisons.{is_changed_within}
use Rattle.disk_pictures.proofs.comparison.versions.Versions.is_changed_within.Goals as goal
use Rattle.disk_pictures.proofs.comparison.versions.Versions.is_changed_within.Goals.{then-found, else-found}

pub loop-index-init : goal.loop-index-init
loop-index-init c = any-none _

pub loop-index-preserved : goal.loop-index-preserved
loop-index-preserved c = elim c.if-found.branch [
  | then-found w ↦ any-more c.loop-index.index _ _ _ _ c.loop-index.invariant c.is_byte_changed-here.ensures
      (or-first _ _ _ w.if-found.true (w.found-is ∙ w.if-found.true))
  | else-found w ↦ any-more c.loop-index.index _ _ _ _ c.loop-index.invariant c.is_byte_changed-here.ensures
      (or-second _ _ _ w.if-found.false w.found-is)
]

pub returns : goal.returns
unfolding is_changed_within
returns c = any-all c.loop-index.index _ _ _ (omega (arith, c.loop-index-test.false, c.loop-index.auto.index-end))
    c.loop-index.invariant
