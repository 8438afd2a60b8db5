-- Side sector by side sector.
use Rattle.std.proofs.Common.{Err, Ok, arith, refl, ◌+◌, ◌∙◌}
use Rattle.std.proofs.lemmas.Result.{err_from_is_err_and}
use Rattle.d64_image.proofs.Moments.{no_reads}
use Rattle.disk_layout.proofs.lemmas.lists.Lists.{read-there}
use Rattle.layout_check.proofs.lemmas.mending.MapMends.{device_later}
use Rattle.layout_check.proofs.lemmas.repairing.MakesRights.{makes_all, makes_first, makes_next, makes_start}
use Rattle.layout_check.proofs.lemmas.repairing.RightSides.{part-only, parts-once}
use Rattle.layout_check.proofs.mending.mend_sides.Goals as goal

pub loop-number-init : goal.loop-number-init
loop-number-init g c =
    let S = g.D.Sectors.history in
    record {
      right = λ l is. makes_start S l c.args.disk.now c.args.disk.now 0 (no_reads S c.args.disk.now);
      failures = refl;
      reads = omega arith;
    }

pub loop-number-preserved : goal.loop-number-preserved
loop-number-preserved g c =
    let S = g.D.Sectors.history in
    let ss = c.args.sides.now in
    let n = c.loop-number.number in
    let p = c.index-sides-number.result in
    let here = read-there ss n p c.loop-number-test.true c.index-sides-number.is in
    let wanted = rw (c.record_length-record_length.ensures, c.new.ensures) at c.side_bytes-wanted.ensures in
    let old = c.loop-number.invariant in
    let now = c.in_ok-mend_side.ensures in
    record {
      right = λ l is. makes_next S l ss n p c.args.disk.now c.loop-number.disk c.mend_side.new.disk (Ok tt) here
          (parts-once _ l is c.args.slot.now c.args.blocks.now ss c.requires.parts) (old.right l is)
          (now.right l (part-only _ l is c.args.slot.now c.args.blocks.now ss c.requires.parts n p
          c.side_bytes-wanted.result here wanted));
      failures = now.failures ∙ old.failures;
      reads = omega (arith, old.reads, now.reads);
    }

pub returns-in_err-mend_side : goal.returns-in_err-mend_side
returns-in_err-mend_side g c =
    let S = g.D.Sectors.history in
    let ss = c.args.sides.now in
    let n = c.loop-number.number in
    let p = c.index-sides-number.result in
    let here = read-there ss n p c.loop-number-test.true c.index-sides-number.is in
    let wanted = rw (c.record_length-record_length.ensures, c.new.ensures) at c.side_bytes-wanted.ensures in
    let old = c.loop-number.invariant in
    let now = c.in_err-mend_side.ensures in
    let e = err_from_is_err_and c.from_residual.result c.from_residual.ensures.1 in
    record {
      right = λ l is. rw (e.1, e.2) (makes_first S l ss ss (n + 1) c.args.disk.now c.mend_side.new.disk _ refl (makes_next S l ss
          n p c.args.disk.now c.loop-number.disk c.mend_side.new.disk (Err _) here
          (parts-once _ l is c.args.slot.now c.args.blocks.now ss c.requires.parts) (old.right l is)
          (now.right l (part-only _ l is c.args.slot.now c.args.blocks.now ss c.requires.parts n p
          c.side_bytes-wanted.result here wanted))));
      failures = rw (e.1, e.2) (device_later S (Unit {0}) c.args.disk.now c.loop-number.disk c.mend_side.new.disk
          (Err _) old.failures now.failures);
      reads = omega (arith, old.reads, now.reads, c.loop-number-test.true);
    }

pub returns : goal.returns
returns g c =
    let S = g.D.Sectors.history in
    let old = c.loop-number.invariant in
    record {
      right = λ l is. makes_all S l c.args.sides.now c.loop-number.number c.args.disk.now c.loop-number.disk (Ok tt)
          (omega (arith, c.loop-number-test.false)) (old.right l is);
      failures = old.failures;
      reads = omega (arith, old.reads, c.loop-number.auto);
    }

pub bounds-sides-number : goal.bounds-sides-number
bounds-sides-number g c = c.loop-number-test.true

pub overflow_cast-number : goal.overflow_cast-number
overflow_cast-number g c = omega (arith, c.loop-number-test.true, c.requires.few)
