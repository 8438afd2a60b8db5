-- One block more, which ends a commit or not.
use Rattle.std.proofs.Common.{◌≡◌, ◌∙◌, ap, arith, sym}
use Rattle.image_log.specs.Blocks.{block_at}
use Rattle.image_log.specs.Salvage.{commits_in}
use Rattle.image_log.proofs.Numbers.{commits_more, commits_none, commits_same}
use Rattle.image_log.proofs.log_blocks.LogBlocks.count_commits.Goals as goal
use Rattle.image_log.proofs.log_blocks.LogBlocks.count_commits.Goals.{else-self-q, then-self-q}

pub loop-q-init : goal.loop-q-init
loop-q-init c = record { few = omega arith; commits = λ f known. sym (commits_none (block_at f)) }

pub loop-q-preserved : goal.loop-q-preserved
loop-q-preserved c =
    let q = c.loop-q.q in
    let inv = c.loop-q.invariant in
    elim c.if-self-q.branch [
      | then-self-q w ↦ record {
        few = omega (arith, inv.few, w.count-is);
        commits = λ f known. omega (
          arith,
          w.count-is,
          inv.commits f known,
          commits_more (block_at f) q (sym (known q (omega arith) (omega (arith, c.loop-q-test.true, c.requires))).last ∙ w.if-self-q.true),
        );
      }
      | else-self-q w ↦ record {
        few = omega (arith, inv.few, w.count-is);
        commits = λ f known. omega (
          arith,
          w.count-is,
          inv.commits f known,
          commits_same (block_at f) q (sym (known q (omega arith) (omega (arith, c.loop-q-test.true, c.requires))).last ∙ w.if-self-q.false),
        );
      }
    ]

pub returns-clause-commits : goal.returns-clause-commits
returns-clause-commits c f known =
    let e : c.loop-q.q ≡ c.args.end = omega (arith, c.loop-q-test.false, c.loop-q.auto.q-end) in
    c.loop-q.invariant.commits f known ∙ ap (commits_in (block_at f)) e
