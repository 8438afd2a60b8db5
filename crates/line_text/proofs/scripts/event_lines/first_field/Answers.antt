-- The first slash.
use Rattle.std.proofs.Common.{arith, ◌+◌}
use Rattle.std.proofs.lemmas.List.{take_rest}
use Rattle.line_text.proofs.lemmas.scripts.Pieces.{split_here, split_nowhere}
use Rattle.line_text.proofs.scripts.event_lines.first_field.Goals as goal

pub returns-then-byte-eq47-clause-fields : goal.returns-then-byte-eq47-clause-fields
returns-then-byte-eq47-clause-fields c =
    rw (take_rest c.args.counts.now (c.loop-i.i + 1)) (split_here 47 c.args.counts.now c.loop-i.i c.loop-i-test.true
    c.loop-i.invariant c.if-byte-eq47.true)

pub returns-clause-fields : goal.returns-clause-fields
returns-clause-fields c =
    split_nowhere 47 c.args.counts.now (λ k below. c.loop-i.invariant k (omega (arith, below, c.loop-i-test.false)))
