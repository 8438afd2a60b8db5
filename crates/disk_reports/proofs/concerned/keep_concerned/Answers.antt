-- An entry more, which the fault concerns or doesn't.
use Rattle.std.proofs.Common.{arith}
use Rattle.d64_image.specs.Memory.{disk_image}
use Rattle.disk_reports.proofs.Kept.{all-kept, kept-more, left-more}
use Rattle.disk_reports.proofs.concerned.keep_concerned.Goals as goal
use Rattle.disk_reports.proofs.concerned.keep_concerned.Goals.{then-is_concerned, else-is_concerned}

pub loop-slot-preserved : goal.loop-slot-preserved
loop-slot-preserved c =
    let old = c.loop-slot.invariant in
    let img = disk_image c.args.disk.now in
    let s = c.slot-item.result in
    elim c.if-is_concerned.branch [
      | then-is_concerned w ↦ record {
        few = rw w.files-is (omega (arith, w.push.ensures.len, old.few));
        those = rw w.files-is (kept-more img c.args.fault c.args.slots.now c.loop-slot.files.items w.push.new.self.items
            c.loop-slot.slot-index s c.loop-slot-test.true c.slot-item.is
            (c.is_concerned.ensures.concerned w.if-is_concerned.true) w.push.ensures.items old.those);
      }
      | else-is_concerned w ↦ record {
        few = rw w.files-is (omega (arith, old.few));
        those = rw w.files-is (left-more img c.args.fault c.args.slots.now c.loop-slot.files.items c.loop-slot.slot-index s
            c.loop-slot-test.true c.slot-item.is
            (c.is_concerned.ensures.other w.if-is_concerned.false) old.those);
      }
    ]

pub returns : goal.returns
returns c =
    all-kept (disk_image c.args.disk.now) c.args.fault c.args.slots.now c.loop-slot.files.items c.loop-slot.slot-index
    (omega (arith, c.loop-slot-test.false, c.loop-slot.auto.slot-index-end)) c.loop-slot.invariant.those
