-- Entry by entry: none is asked for yet, or this one is the first.
use Rattle.std.proofs.Common.{arith, length, refl}
use borrow.Author.Count.{below_more}
use Rattle.std.proofs.lemmas.Option.{slice_get_read, slice_get_within}
use Rattle.file_rescues.proofs.Entries.{not-asked}
use Rattle.rel_records.proofs.lemmas.reading.Found.{same-slot}
use Rattle.file_rescues.proofs.finding.first_asked.Goals as goal

pub loop-number-preserved : goal.loop-number-preserved
loop-number-preserved c =
    let there = slice_get_read c.args.slots.now (length c.args.slots.now) c.loop-number.number
    c.index-slots-number.result refl c.loop-number-test.true c.index-slots-number.is in
    record {
      none = below_more _ _ c.loop-number.invariant.none (λ s at. not-asked c.args.kind c.args.name.now c.index-slots-number.result
          s c.is_asked.result c.if-is_asked.false c.is_asked.ensures.1 (same-slot c.args.slots.now c.loop-number.number
          c.index-slots-number.result s there at));
    }

pub returns-then-is_asked : goal.returns-then-is_asked
returns-then-is_asked c = record {
  slot = c.index-slots-number.result;
  there = slice_get_read c.args.slots.now (length c.args.slots.now) c.loop-number.number c.index-slots-number.result
      refl c.loop-number-test.true c.index-slots-number.is;
  asked = c.is_asked.ensures.0 c.if-is_asked.true;
  first = λ k s lt at. c.loop-number.invariant.none k lt s at;
}

pub returns : goal.returns
returns c = λ k s at. c.loop-number.invariant.none k
    (omega (arith, c.loop-number-test.false, slice_get_within c.args.slots.now k s at)) s at
