-- Two digits more are written in front, and at last the one that is left.
use Rattle.std.proofs.Common.{◌-◌, drop, arith, ◌∙◌, ap}
use Rattle.request_cards.proofs.Pairs.{fixed_even, fixed_odd, fixed_two_more}
use Rattle.request_cards.proofs.fixed.write_pairs.Goals as goal
use Rattle.request_cards.proofs.fixed.write_pairs.Goals.{then-width-eq1, else-width-eq1}

pub loop-i-preserved : goal.loop-i-preserved
loop-i-preserved c = (
  c.write_pair.auto.room ∙ c.loop-i.invariant.0,
  fixed_two_more _ c.args.width c.loop-i.i c.loop-i.rest c.args.end c.loop-i.room c.write_pair.new.room
      c.loop-i.invariant.1
      c.loop-i-test.true (omega arith) c.write_pair.ensures,
)

pub returns-clause-written : goal.returns-clause-written
returns-clause-written c =
    elim c.if-width-eq1.branch [
      | then-width-eq1 w ↦ ap (drop (c.args.end - c.args.width)) w.room-is
          ∙ fixed_odd _ c.args.width c.loop-i.i c.loop-i.rest c.args.end c.loop-i.room _ c.loop-i.invariant.1
          (omega arith) (omega arith)
          (omega (arith, c.loop-i.invariant.0)) w.last_digit.ensures
      | else-width-eq1 w ↦ ap (drop (c.args.end - c.args.width)) w.room-is
          ∙ fixed_even _ c.args.width c.loop-i.i c.loop-i.rest c.args.end c.loop-i.room c.loop-i.invariant.1
          (omega arith)
    ]
