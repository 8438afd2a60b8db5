-- The script was played over the file that was handed in.
use Rattle.host_session.specs.runs.Outputs.{written}
use Rattle.ledger_cli.proofs.Over.{over}
use Rattle.ledger_cli.specs.Streams.{HandsSectors, stream}
use Rattle.shop_jobs.specs.Runs.{IsPlayRun}
use Rattle.ledger_cli.proofs.changing.play.Goals as goal

pub returns-in-Ok : goal.returns-in-Ok
returns-in-Ok g c =
    let old = c.args.out.now in
    let run = c.play_written-stream in
    let end = run.result.1 in
    over c.args.image.now c.args.file c.file_of.result old run.new.out end
    (λ b a. IsPlayRun (stream g.F.Seek.stream_position g.F.Seek.stream_bytes g.F.Write.contents)
    (written g.W.Write.contents) c.args.image.now c.args.script.now b a old run.new.out end
    × HandsSectors g.F.Seek.stream_position g.F.Seek.stream_bytes g.F.Write.contents c.args.image.now b a)
    c.in-Ok.stream run.result.0 c.in-Ok.ensures.ok c.file_of.ensures
    (run.ensures.run, run.ensures.reached)
