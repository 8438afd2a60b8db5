-- Track by track, whichever of the two judged it.
use Rattle.std.proofs.Common.{arith}
use borrow.Author.Count.{below_more}
use Rattle.layout_check.proofs.maps.check_bits.Goals as goal
use Rattle.layout_check.proofs.maps.check_bits.Goals.{
  else-not-is_right_track,
  then-not-is_right_track+in_ok-check_track,
}

pub loop-below-init : goal.loop-below-init
loop-below-init c n low some = absurd (omega (arith, low, some))

pub loop-below-preserved : goal.loop-below-preserved
loop-below-preserved c = elim c.if-not-is_right_track.branch [
  | then-not-is_right_track+in_ok-check_track w ↦
      below_more _ _ c.loop-below.invariant (λ _. w.in_ok-check_track.ensures.ok)
  | else-not-is_right_track w ↦
      below_more _ _ c.loop-below.invariant (λ _. c.is_right_track.ensures w.if-not-is_right_track.false)
]

pub returns-clause-ok : goal.returns-clause-ok
returns-clause-ok c n some low = c.loop-below.invariant n (omega (arith, low, c.loop-below-test.false)) some
