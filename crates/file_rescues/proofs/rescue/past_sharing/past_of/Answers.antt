-- One sector more.
use Rattle.std.proofs.Common.{arith}
use Rattle.file_rescues.proofs.lemmas.rescue.PastShared.{filtered-next, past-all}
use Rattle.file_rescues.specs.rescue.Sharing.{is_so_often, numbers_of}
use Rattle.file_rescues.proofs.rescue.past_sharing.past_of.Goals as goal

pub loop-past-preserved : goal.loop-past-preserved
loop-past-preserved c = record {
  items = filtered-next (is_so_often c.args.least (numbers_of c.args.files.now)) c.loop-past.numbers.items _ c.loop-past.past
      c.loop-past.invariant.items c.add_past.ensures.items;
  few = omega (arith, c.loop-past.invariant.few, c.add_past.ensures.few);
}

pub returns : goal.returns
returns c =
    past-all c.args.least c.args.files.now _ c.loop-past.past (omega (arith, c.loop-past-test.false, c.loop-past.auto.past-end))
    c.loop-past.invariant.items
