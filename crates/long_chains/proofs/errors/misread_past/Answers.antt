-- One sector more.
use Rattle.std.proofs.Common.{arith}
use Rattle.long_chains.proofs.Misread.{misread-all, misread-next}
use Rattle.long_chains.proofs.errors.misread_past.Goals as goal

pub loop-past-preserved : goal.loop-past-preserved
loop-past-preserved c = record {
  items = misread-next c.args.image.now c.loop-past.numbers.items _ c.loop-past.past c.loop-past.invariant.items
      c.add_misread.ensures.items;
  few = omega (arith, c.loop-past.invariant.few, c.add_misread.ensures.few);
}

pub returns : goal.returns
returns c =
    misread-all c.args.image.now _ c.loop-past.past (omega (arith, c.loop-past-test.false, c.loop-past.auto.past-end))
    c.loop-past.invariant.items
