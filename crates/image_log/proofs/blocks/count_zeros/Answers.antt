use Rattle.std.proofs.Common.{arith}
use Rattle.image_log.proofs.Counting.{zeros_none, zeros_more, zeros_same}
use Rattle.image_log.proofs.blocks.count_zeros.Goals as goal
use Rattle.image_log.proofs.blocks.count_zeros.Goals.{then-block-i-eq0, else-block-i-eq0}

pub loop-i-init : goal.loop-i-init
loop-i-init c = record { counted = omega (arith, zeros_none c.args.block.now 2); few = omega arith }

pub loop-i-preserved : goal.loop-i-preserved
loop-i-preserved c =
    let b = c.args.block.now in
    let i = c.loop-i.i in
    elim c.if-block-i-eq0.branch [
      | then-block-i-eq0 w ↦ record {
        counted = omega (arith, w.count-is, c.loop-i.invariant.counted, zeros_more b 2 i w.if-block-i-eq0.true);
        few = omega (arith, w.count-is, c.loop-i.invariant.few);
      }
      | else-block-i-eq0 w ↦ record {
        counted = omega (arith, w.count-is, c.loop-i.invariant.counted, zeros_same b 2 i w.if-block-i-eq0.false);
        few = omega (arith, w.count-is, c.loop-i.invariant.few);
      }
    ]
