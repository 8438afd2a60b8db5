-- One entry more.
use Rattle.std.proofs.Common.{arith, sym}
use Rattle.disk_pictures.proofs.Called.{counted-so}
use Rattle.disk_pictures.proofs.comparison.counterparts.count_called.Goals as goal

pub loop-file-preserved : goal.loop-file-preserved
loop-file-preserved c = record {
  so_far = counted-so c.args.name.now c.args.files.now c.loop-file.file-index c.file-item.result _ _ c.loop-file-test.true
      (sym c.file-item.is) c.loop-file.invariant.so_far c.count_of-count.ensures.value;
  few = omega (arith, c.loop-file.invariant.few, c.count_of-count.ensures.few);
}
