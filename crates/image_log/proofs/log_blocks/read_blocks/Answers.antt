-- One block more is known.
use Rattle.std.proofs.Common.{◌∙◌, ◌-◌, ℕ, List, ap, arith, eqb, get_or, subst}
use Rattle.std.proofs.lemmas.List.{length-set}
use Rattle.std.specs.Prelude.{IsTrue, ◌↔◌}
use Rattle.image_log.specs.Blocks.{IsBlank, is_whole}
use Rattle.image_log.proofs.Known.{known_more}
use Rattle.image_log.proofs.log_blocks.read_blocks.Goals as goal

pub loop-n-preserved : goal.loop-n-preserved
loop-n-preserved g c =
    let inv = c.loop-n.invariant in
    let n = c.loop-n.n in
    record {
      few = omega (arith, inv.few);
      same = c.read_block.ensures.reads.same ∙ inv.same;
      whole = length-set _ (n - 1) c.is_whole_block.result ∙ inv.whole;
      last = length-set _ (n - 1) (eqb (get_or c.in_ok-block.block 10 0) 2) ∙ inv.last;
      blank = length-set _ (n - 1) c.is_blank.result ∙ inv.blank;
      known = λ f is long.
          let here = c.in_ok-block.ensures.block f (inv.same ∙ is) long in
          known_more _ f (n - 1) c.is_whole_block.result _ c.is_blank.result
          (omega (arith, inv.few, c.loop-n-test.true)) inv.whole inv.last inv.blank
          (c.is_whole_block.ensures ∙ ap (is_whole (n - 1)) here)
          (ap (λ (b : List ℕ). eqb (get_or b 10 0) 2) here)
          (subst (λ (b : List ℕ). IsTrue c.is_blank.result ↔ IsBlank b) here c.is_blank.ensures)
          (λ q past low. inv.known f is long q (omega (arith, past)) low);
    }
