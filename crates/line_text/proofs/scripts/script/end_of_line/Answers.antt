-- The first LF of the front is the script's first.
use Rattle.std.proofs.Common.{ℕ, subst, sym, arith, below_more}
use Rattle.line_text.specs.scripts.Lines.{IsFirst}
use Rattle.line_text.proofs.lemmas.scripts.Lines.{first_of_front}
use Rattle.line_text.proofs.scripts.script.end_of_line.Goals as goal

pub returns-then-at-lt64 : goal.returns-then-at-lt64
returns-then-at-lt64 c =
    subst (λ (i : ℕ). IsFirst 10 c.args.script.now i) (sym c.from.ensures)
    (first_of_front 10 64 c.in-Some.window.now c.args.script.now c.lf_among-at.result c.in-Some.ensures.cases
    (c.lf_among-at.ensures c.if-at-lt64.true))

pub loop-i-init : goal.loop-i-init
loop-i-init c = λ k h. absurd (omega (arith, h))

pub loop-i-preserved : goal.loop-i-preserved
loop-i-preserved c = below_more _ _ c.loop-i.invariant c.if-byte-eq10.false

pub first_chunk-requires : goal.first_chunk-requires
first_chunk-requires c = omega arith

pub bounds-script-i : goal.bounds-script-i
bounds-script-i c = omega arith

pub returns-then-byte-eq10 : goal.returns-then-byte-eq10
returns-then-byte-eq10 c =
    record { inside = c.loop-i-test.true; here = c.if-byte-eq10.true; before = c.loop-i.invariant }

pub returns : goal.returns
returns c = λ k below. c.loop-i.invariant k (omega (arith, below, c.loop-i-test.false))
