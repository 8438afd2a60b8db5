-- Slot by slot.
use Rattle.rel_records.proofs.creation.directory_room.free_slot.Goals as goal
use Rattle.rel_records.proofs.lemmas.directory.Rooms.{used-more, full-sector}
use Rattle.std.proofs.Common.{arith}

pub loop-number-preserved : goal.loop-number-preserved
loop-number-preserved c = record {
  used = used-more c.args.bytes.now c.loop-number.number c.loop-number.invariant.used
      c.if-bytes-number-eq0.false;
}

pub returns : goal.returns
returns c = full-sector c.args.bytes.now
    (λ k lt. c.loop-number.invariant.used k (omega (arith, c.loop-number-test.false, lt)))
