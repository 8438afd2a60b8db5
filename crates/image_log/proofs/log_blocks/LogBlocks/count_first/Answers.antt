-- The first block that ends a commit, and after it nothing changes.
use Rattle.std.proofs.Common.{◌≡◌, ◌+◌, ◌-◌, suc, sym, ap, ◌∙◌, arith}
use Rattle.image_log.specs.Blocks.{block_at, first_commit}
use Rattle.image_log.proofs.Runs.{first_here, first_later, first_none, first_stays}
use Rattle.image_log.proofs.log_blocks.LogBlocks.count_first.Goals as goal

pub loop-q-init : goal.loop-q-init
loop-q-init c f known = first_none (block_at f)

pub loop-q-preserved : goal.loop-q-preserved
loop-q-preserved c f known =
    let B = block_at f in
    let q = c.loop-q.q in
    let e : q + 1 ≡ suc q = omega arith in
    ap (first_commit B) e ∙ first_later B q (c.loop-q.invariant f known)
    (sym (known q (omega arith) (omega (arith, c.loop-q-test.true, c.requires))).last ∙ c.if-self-q.false)

pub returns-then-self-q-clause-first : goal.returns-then-self-q-clause-first
returns-then-self-q-clause-first c f known =
    let B = block_at f in
    let q = c.loop-q.q in
    let here = first_here B q (c.loop-q.invariant f known)
    (sym (known q (omega arith) (omega (arith, c.loop-q-test.true, c.requires))).last ∙ c.if-self-q.true) in
    let e : suc q + (c.args.whole - suc q) ≡ c.args.whole = omega (arith, c.loop-q-test.true) in
    let all = ap (first_commit B) (sym e) ∙ first_stays B (suc q) (c.args.whole - suc q) (omega (arith, here)) ∙ here in
    omega (arith, all)

pub returns-clause-first : goal.returns-clause-first
returns-clause-first c f known =
    let e : c.loop-q.q ≡ c.args.whole = omega (arith, c.loop-q-test.false, c.loop-q.auto.q-end) in
    sym (ap (first_commit (block_at f)) (sym e) ∙ c.loop-q.invariant f known)
