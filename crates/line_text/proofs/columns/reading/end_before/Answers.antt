-- The byte before the end isn't passed, or there is none.
use Rattle.std.proofs.Common.{arith, sym, ◌∙◌}
use Rattle.line_text.proofs.lemmas.columns.Ends.{ends}
use Rattle.line_text.proofs.columns.reading.end_before.Goals as goal

pub returns-else-is_one-clause-is : goal.returns-else-is_one-clause-is
returns-else-is_one-clause-is c =
    ends c.args.commas c.args.line.now c.loop-end.end c.loop-end.invariant.0 c.loop-end.invariant.1
    (λ some. sym c.is_one.ensures ∙ c.if-is_one.false)

pub returns-after-loop-end-clause-is : goal.returns-after-loop-end-clause-is
returns-after-loop-end-clause-is c =
    ends c.args.commas c.args.line.now c.loop-end.end c.loop-end.invariant.0 c.loop-end.invariant.1
    (λ some. absurd (omega (arith, some, c.loop-end-test.false)))
