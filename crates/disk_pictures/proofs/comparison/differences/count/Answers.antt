-- One sector more.
use Rattle.std.proofs.Common.{arith, refl}
use Rattle.disk_pictures.proofs.InOrder.{counted-all, counted-more}
use Rattle.layout_check.proofs.lemmas.mending.Ones.{bit-small}
use Rattle.disk_pictures.specs.Comparisons.{each_difference}
use Rattle.disk_pictures.proofs.comparison.differences.count.Goals as goal

pub loop-index-init : goal.loop-index-init
loop-index-init c = record { so_far = refl; few = omega arith }

pub overflow_add-count : goal.overflow_add-count
overflow_add-count c =
    omega (arith, c.loop-index.invariant.few, c.loop-index-test.true, c.from-count.ensures, bit-small c.differs-one.result)

pub loop-index-preserved : goal.loop-index-preserved
loop-index-preserved c = record {
  so_far = counted-more c.args.before.now.sectors.now c.args.after.now.sectors.now c.loop-index.index c.nth.result
      c.loop-index.count _ c.nth.ensures c.loop-index.invariant.so_far c.differs-one.result c.differs-one.ensures
      c.from-count.ensures;
  few = omega (arith, c.loop-index.invariant.few, c.from-count.ensures, bit-small c.differs-one.result);
}

pub returns : goal.returns
unfolding each_difference
returns c = counted-all c.args.before.now.sectors.now c.args.after.now.sectors.now c.loop-index.index c.loop-index.count
    c.loop-index-test.false c.loop-index.invariant.so_far
