-- However the play ended, the file came of the one that was passed in.
use Rattle.std.proofs.Common.{Err, None, Ok, Result, refl, subst}
use Rattle.std.specs.Prelude.{IfErr, OnOk}
use Rattle.command_faults.specs.declared.faults.CommandFault.{CommandFault}
use Rattle.host_session.specs.runs.Outputs.{written}
use Rattle.ledger_cli.proofs.Reached.{played_reached}
use Rattle.shop_jobs.specs.Runs.{IsPlayRun}
use Rattle.shop_commands.specs.Plays.{IsFileFault, IsPlayedFile}
use Rattle.ledger_cli.proofs.playing.play_written.Goals as goal

pub returns-in-Ok : goal.returns-in-Ok
returns-in-Ok g c =
    let K = g.F.SectorFile.keeps in
    let o = written g.W.Write.contents in
    let left = c.play_over-left.result.0 in
    let new = c.play_over-left.new.out in
    let done = subst (λ (e : Result (Unit {0}) CommandFault). OnOk e (IsPlayedFile K o c.args.image.now c.args.script.now
    c.args.file left c.args.out.now new)) c.in-Ok.is c.play_over-left.ensures.ok in
    let run : IsPlayRun K o c.args.image.now c.args.script.now c.args.file left c.args.out.now new (Ok None) =
    record { done = (refl, done); fault = tt } in
    record { run = run; reached = λ s is. played_reached K _ _ _ _ _ _ _ s is (Ok None) run }

pub returns-in-Err : goal.returns-in-Err
returns-in-Err g c =
    let K = g.F.SectorFile.keeps in
    let o = written g.W.Write.contents in
    let left = c.play_over-left.result.0 in
    let new = c.play_over-left.new.out in
    let why = subst (λ (e : Result (Unit {0}) CommandFault). IfErr e (IsFileFault K o c.args.image.now c.args.script.now
    c.args.file left c.args.out.now new)) c.in-Err.is c.play_over-left.ensures.err in
    let run : IsPlayRun K o c.args.image.now c.args.script.now c.args.file left c.args.out.now new (Err c.in-Err.fault) =
    record { done = tt; fault = why } in
    record { run = run; reached = λ s is. played_reached K _ _ _ _ _ _ _ s is (Err _) run }
