-- A block that ends no commit is passed over.
use Rattle.std.proofs.Common.{◌≡◌, ◌-◌, suc, sym, ap, ◌∙◌, arith}
use Rattle.image_log.specs.Blocks.{block_at, committed}
use Rattle.image_log.proofs.Runs.{committed_last, committed_more, committed_none}
use Rattle.image_log.proofs.log_blocks.LogBlocks.count_committed.Goals as goal

pub loop-n-preserved : goal.loop-n-preserved
loop-n-preserved c =
    let n = c.loop-n.n in
    let e : n ≡ suc (n - 1) = omega (arith, c.loop-n-test.true) in
    record {
      few = omega (arith, c.loop-n.invariant.few);
      same = λ f known. c.loop-n.invariant.same f known ∙ ap (committed (block_at f)) e
          ∙ committed_more (block_at f) (n - 1) (sym (known (n - 1) (omega arith) (omega (arith, c.loop-n.invariant.few, c.requires, c.loop-n-test.true))).last
          ∙ c.if-self-n.false);
    }

pub returns-then-self-n-clause-committed : goal.returns-then-self-n-clause-committed
returns-then-self-n-clause-committed c f known =
    let B = block_at f in
    let n = c.loop-n.n in
    let e : n ≡ suc (n - 1) = omega (arith, c.loop-n-test.true) in
    sym (c.loop-n.invariant.same f known ∙ ap (committed B) e
    ∙ committed_last B (n - 1) (sym (known (n - 1) (omega arith) (omega (arith, c.loop-n.invariant.few, c.requires, c.loop-n-test.true))).last
    ∙ c.if-self-n.true) ∙ sym e)

pub returns-clause-committed : goal.returns-clause-committed
returns-clause-committed c f known =
    let e : c.loop-n.n ≡ 0 = omega (arith, c.loop-n-test.false) in
    sym (c.loop-n.invariant.same f known ∙ ap (committed (block_at f)) e ∙ committed_none (block_at f))
