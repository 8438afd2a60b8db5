-- The first space.
use Rattle.std.proofs.Common.{sym, arith, ◌+◌}
use Rattle.std.proofs.lemmas.List.{take_rest}
use Rattle.line_text.proofs.lemmas.scripts.Pieces.{cut_here, cut_nowhere}
use Rattle.line_text.proofs.scripts.event_lines.at_space.Goals as goal

pub returns-then-byte-eq32 : goal.returns-then-byte-eq32
returns-then-byte-eq32 c =
    rw (take_rest c.args.bytes.now (c.loop-i.i + 1))
    (sym (cut_here 32 c.args.bytes.now c.loop-i.i c.loop-i-test.true c.loop-i.invariant c.if-byte-eq32.true))

pub returns : goal.returns
returns c = sym (cut_nowhere 32 c.args.bytes.now
    (λ k below. c.loop-i.invariant k (omega (arith, below, c.loop-i-test.false))))
