-- What was printed, by how the play ended and its log was landed.
use Rattle.std.proofs.Common.{rules}
use Rattle.shop_jobs.proofs.KeptTold.{kept-lines}
use Rattle.shop_jobs.proofs.LogPlayKept.{played-kept}
use Rattle.shop_jobs.proofs.ReplyTold.{played-answered}
use Rattle.shop_jobs.specs.JobOutputs.{lines_over}
use Rattle.shop_jobs.proofs.playing_logs.play_printed.Goals as goal

pub returns-clause-lines : goal.returns-clause-lines
returns-clause-lines g c =
    let told = g.W.Write.contents in
    let o = g.W.JobOutput.replies _ in
    let x = c.play_begun-ended.ensures.played in
    kept-lines g.D.LogFolder.history told o c.args.image.now _ c.args.log c.args.out.now _ c.play_begun-ended.result.1
    (played-kept g.D.LogFolder.history (lines_over told o) c.args.image.now c.args.script.now c.args.log c.new-printer.result
    c.play_begun-ended.new.out c.args.out.now _ c.new-printer.ensures.out (λ same. search rules) x.0
    c.play_begun-ended.result.0 c.play_begun-ended.result.1 x.1)

pub returns-clause-done : goal.returns-clause-done
returns-clause-done g c =
    let x = c.play_begun-ended.ensures.played in
    played-answered g.D.LogFolder.history g.W.Write.contents (g.W.JobOutput.replies _) c.args.image.now c.args.script.now c.args.log
    c.new-printer.result c.play_begun-ended.new.out c.args.out.now _ c.new-printer.ensures.out (λ same. search rules) x.0
    c.play_begun-ended.result.0 c.play_begun-ended.result.1 x.1

pub returns-clause-kept : goal.returns-clause-kept
returns-clause-kept g c =
    let x = c.play_begun-ended.ensures.played in
    played-kept g.D.LogFolder.history (lines_over g.W.Write.contents (g.W.JobOutput.replies _)) c.args.image.now c.args.script.now
    c.args.log c.new-printer.result c.play_begun-ended.new.out c.args.out.now _ c.new-printer.ensures.out
    (λ same. search rules) x.0 c.play_begun-ended.result.0 c.play_begun-ended.result.1 x.1
