-- A sector that is shared is the first one.
use Rattle.std.proofs.Common.{arith, sym, ◌∙◌}
use Rattle.file_rescues.proofs.lemmas.rescue.PastShared.{among-here, among-later, among-none}
use Rattle.file_rescues.proofs.rescue.past_sharing.first_among.Goals as goal

pub returns-then-contains : goal.returns-then-contains
returns-then-contains c =
    among-here c.args.shared.now c.args.sectors.now c.loop-number.number-index c.loop-number.invariant.rest c.loop-number-test.true
    (sym c.contains.ensures.value ∙ c.if-contains.true)

pub loop-number-preserved : goal.loop-number-preserved
loop-number-preserved c = record {
  rest = among-later c.args.shared.now c.args.sectors.now c.loop-number.number-index c.loop-number.invariant.rest
      c.loop-number-test.true (sym c.contains.ensures.value ∙ c.if-contains.false);
}

pub returns : goal.returns
returns c =
    among-none c.args.shared.now c.args.sectors.now c.loop-number.number-index c.loop-number.invariant.rest c.loop-number-test.false
