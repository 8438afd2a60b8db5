-- One sector of zeros more.
use Rattle.std.proofs.Common.{◌≡◌, ◌∙◌, arith, refl, replicate}
use Rattle.image_log.proofs.Filled.{all_same, one_more}
use Rattle.image_log.proofs.replaying.wipe.Goals as goal

pub loop-i-init : goal.loop-i-init
loop-i-init c j low = absurd (omega (arith, low))

pub loop-i-preserved : goal.loop-i-preserved
loop-i-preserved c = one_more c.loop-i.image c.loop-i.i (replicate 256 0) (λ _ x. x ≡ replicate 256 0)
    (omega (arith, c.loop-i-test.true, c.loop-i.auto.image)) refl c.loop-i.invariant

pub returns : goal.returns
returns c = all_same c.loop-i.image (replicate 256 0) 683 (c.loop-i.auto.image ∙ c.requires)
    (λ j low. c.loop-i.invariant j (omega (arith, low, c.loop-i-test.false, c.requires)))
