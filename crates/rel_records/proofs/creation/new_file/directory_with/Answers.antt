-- Nothing but the entry.
use Rattle.std.proofs.Common.{arith}
use Rattle.rel_records.proofs.creation.new_file.directory_with.Goals as goal
use Rattle.rel_records.proofs.lemmas.directory.Entered.{new-zeros}

pub returns : goal.returns
returns c = record {
  ends = c.set_entry.ensures.link 0 (omega arith);
  last = c.set_entry.ensures.link 1 (omega arith);
  entered = (_, c.set_entry.ensures);
  free = new-zeros _ c.args.entry.now c.set_entry.ensures;
}
