-- What was printed is what was passed on.
use Rattle.std.proofs.Common.{rules}
use Rattle.shop_jobs.proofs.KeptTold.{kept-told}
use Rattle.shop_jobs.proofs.LoggedTold.{lent-logged}
use Rattle.shop_jobs.proofs.ReplyTold.{lent-same}
use Rattle.shop_jobs.proofs.ServiceKept.{printed-kept}
use Rattle.shop_jobs.specs.JobOutputs.{lines_over}
use Rattle.shop_jobs.proofs.serving_logs.serve_printed.Goals as goal

pub returns-clause-told : goal.returns-clause-told
returns-clause-told g c =
    let before = c.new-printer.result in
    let behind = c.serve_watched.new.out in
    let told = g.W.Write.contents in
    let o = g.W.JobOutput.replies _ in
    let end = c.serve_watched.result in
    kept-told g.D.LogFolder.history told o c.args.image.now _ c.args.log c.args.out.now _ end
    (lent-logged before behind c.args.out.now _
    (lent-same before behind c.args.out.now _ c.new-printer.ensures.out (λ same. search rules)) end
    c.serve_watched.ensures.quiet)
    (printed-kept g.D.LogFolder.history (lines_over told o) c.args.image.now _ c.args.log before behind c.args.out.now _
    c.new-printer.ensures.out (λ same. search rules) end c.serve_watched.ensures.kept)

pub returns-clause-kept : goal.returns-clause-kept
returns-clause-kept g c =
    printed-kept g.D.LogFolder.history (lines_over g.W.Write.contents (g.W.JobOutput.replies _)) c.args.image.now _ c.args.log
    c.new-printer.result c.serve_watched.new.out c.args.out.now _ c.new-printer.ensures.out (λ same. search rules)
    c.serve_watched.result c.serve_watched.ensures.kept
