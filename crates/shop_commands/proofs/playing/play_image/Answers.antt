-- The run's own word, once what was told is handed on.
use Rattle.std.proofs.Common.{inl, inr, refl}
use Rattle.shop_commands.proofs.PlayEnds.{fault_handed_on, handed_on}
use Rattle.shop_commands.proofs.playing.play_image.Goals as goal

pub returns-in-Ok-hand_on : goal.returns-in-Ok-hand_on
returns-in-Ok-hand_on g c = (
  handed_on g.D.Sectors.history g.T.Replies.output c.args.disk c.args.script.now c.args.out.now c.play_script.new.out
      c.hand_on.new.self
      c.hand_on.ensures.kept c.in-Ok.left c.in-Ok.ensures,
  c.in-Ok-hand_on.ensures.ok,
)

pub returns-in-Err-hand_on : goal.returns-in-Err-hand_on
returns-in-Err-hand_on g c =
    inl (
      refl,
      handed_on g.D.Sectors.history g.T.Replies.output c.args.disk c.args.script.now c.args.out.now c.play_script.new.out
          c.hand_on.new.self
          c.hand_on.ensures.kept c.in-Ok.left c.in-Ok.ensures,
    )

pub returns-in-Err : goal.returns-in-Err
returns-in-Err g c =
    inr (
      c.in-Err.fault,
      c.told.ensures.value,
      fault_handed_on g.D.Sectors.history g.T.Replies.output c.args.disk c.args.script.now c.args.out.now
          c.play_script.new.out c.told.new.out
          c.told.ensures.told (c.in-Err.fault, c.in-Err.left) c.told.ensures.silent c.in-Err.ensures,
    )
