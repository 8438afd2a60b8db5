-- One block's sectors more.
use Rattle.std.proofs.Common.{◌≡◌, ◌+◌, ◌∙◌, ℕ, List, ap, arith, refl, suc, sym}
use Rattle.image_log.specs.Blocks.{block_at, replayed, written}
use Rattle.image_log.specs.Recovered.{blank}
use Rattle.image_log.proofs.Runs.{replayed_none, replayed_suc}
use Rattle.image_log.proofs.replaying.replay.Goals as goal

pub loop-q-init : goal.loop-q-init
loop-q-init g c = record { same = refl; image = λ f is long. c.wipe.ensures ∙ sym (replayed_none (block_at f) blank) }

pub loop-q-preserved : goal.loop-q-preserved
loop-q-preserved g c =
    let q = c.loop-q.q in
    let inv = c.loop-q.invariant in
    record {
      same = c.read_block.ensures.reads.same ∙ inv.same;
      image = λ f is long.
          let B = block_at f in
          let e : q + 1 ≡ suc q = omega arith in
          c.copy_block.ensures ∙ ap (λ (b : List ℕ). written b c.loop-q.image) (c.in_ok-block.ensures.block f (inv.same ∙ is) long)
          ∙ ap (written (B q)) (inv.image f is long) ∙ sym (replayed_suc B blank q) ∙ ap (replayed B blank) (sym e);
    }
