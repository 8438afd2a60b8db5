-- The run's own word, once what was written is handed on.
use Rattle.std.proofs.Common.{inl, inr, refl}
use Rattle.host_session.specs.runs.Outputs.{written}
use Rattle.shop_commands.proofs.PlayEnds.{fault_handed_on, handed_on}
use Rattle.ledger_cli.proofs.playing.play_lines.Goals as goal

pub returns-in-Ok-hand_on : goal.returns-in-Ok-hand_on
returns-in-Ok-hand_on g c = (
  handed_on g.D.Sectors.history (written g.W.Write.contents) c.args.disk c.args.script.now c.args.out.now
      c.run_script.new.out c.hand_on.new.out c.hand_on.ensures c.in-Ok.left c.in-Ok.ensures,
  tt,
)

pub returns-in-Err-hand_on : goal.returns-in-Err-hand_on
returns-in-Err-hand_on g c =
    inl (
      refl,
      handed_on g.D.Sectors.history (written g.W.Write.contents) c.args.disk c.args.script.now c.args.out.now
          c.run_script.new.out c.hand_on.new.out c.hand_on.ensures c.in-Ok.left c.in-Ok.ensures,
    )

pub returns-in-Err : goal.returns-in-Err
returns-in-Err g c =
    inr (
      c.in-Err.fault,
      c.told.ensures.value,
      fault_handed_on g.D.Sectors.history (written g.W.Write.contents) c.args.disk c.args.script.now c.args.out.now
          c.run_script.new.out c.told.new.out
          c.told.ensures.told (c.in-Err.fault, c.in-Err.left) c.told.ensures.silent c.in-Err.ensures,
    )
