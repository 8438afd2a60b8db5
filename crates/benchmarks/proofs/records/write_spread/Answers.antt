-- A record that is written leaves the disk clean, and what is kept of the file good.
use Rattle.std.proofs.Common.{◌∙◌}
use Rattle.rel_records.proofs.lemmas.Usable.{clean-then, clean-usable}
use Rattle.benchmarks.proofs.records.write_spread.Goals as goal

pub write_record-requires-clause-usable : goal.write_record-requires-clause-usable
write_record-requires-clause-usable g c = clean-usable _ c.loop-round.invariant.clean

pub loop-round-preserved : goal.loop-round-preserved
loop-round-preserved g c =
    let (l, n, f, of) = c.loop-round.invariant.of in
    let left = (c.in_ok-write_record.ensures.file l n f of).done tt in
    record {
      high = c.next_number-number.ensures.high;
      clean = clean-then _ _ l left.layout of.layout c.loop-round.invariant.clean left.clean;
      of = (left.layout, n, left.file, left.of);
      failures = c.in_ok-write_record.ensures.failures ∙ c.loop-round.invariant.failures;
    }
