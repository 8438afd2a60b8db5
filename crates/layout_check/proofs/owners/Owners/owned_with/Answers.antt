-- Sector by sector: one with the number, or another.
use Rattle.std.proofs.Common.{arith}
use Rattle.layout_check.proofs.lemmas.owners.Numbers.{with-all, with-next, with-none, with-small}
use Rattle.layout_check.proofs.owners.Owners.owned_with.Goals as goal

pub loop-number-init : goal.loop-number-init
loop-number-init c = record { counted = with-none c.args.self.now c.args.place; few = omega arith }

pub overflow_add-count : goal.overflow_add-count
overflow_add-count c = omega (
  arith,
  c.loop-number.invariant.few,
  c.loop-number-test.true,
  with-small _ _ _ c.from-count.ensures,
)

pub loop-number-preserved : goal.loop-number-preserved
loop-number-preserved c = record {
  counted = with-next c.args.self.now c.args.place c.loop-number.number-index c.loop-number.count c.owner-owner.result
      c.from-count.result c.loop-number-test.true c.owner-owner.ensures c.from-count.ensures
      c.loop-number.invariant.counted;
  few = omega (arith, c.loop-number.invariant.few, with-small _ _ _ c.from-count.ensures);
}

pub returns : goal.returns
returns c = with-all c.args.self.now c.args.place c.loop-number.number-index c.loop-number.count
    (omega (arith, c.loop-number-test.false, c.loop-number.auto, c.args.self.now.full)) c.loop-number.invariant.counted
