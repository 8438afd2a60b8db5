-- What was passed on, by how the service ended and its log was landed.
use Rattle.std.proofs.Common.{rules}
use Rattle.shop_jobs.proofs.LoggedTold.{service-quiet, landed-quiet, lent-logged, watched-back}
use Rattle.shop_jobs.proofs.ServiceKept.{served-kept}
use Rattle.shop_jobs.proofs.serving_logs.serve_watched.Goals as goal

pub returns : goal.returns
returns g c =
    let before = c.new-answers.result in
    let behind = c.serve_begun-ended.new.answers in
    let folder = c.serve_begun-ended.result.0 in
    let end = c.serve_begun-ended.result.1 in
    record {
      quiet = lent-logged before behind c.args.out.now _
          (watched-back before behind c.args.out.now _ c.new-answers.ensures.out (λ same. search rules)) end
          (landed-quiet before behind g.D.LogFolder.history _
          (λ left ended done. service-quiet _ _ _ c.args.image.now c.args.log left c.args.input.now
          c.serve_begun-ended.new.input before behind ended done)
          _ folder end c.serve_begun-ended.ensures.2);
      kept = served-kept g.D.LogFolder.history g.I.BatchSource.input g.T.BatchReplies.output c.args.image.now c.args.log
          c.args.input.now c.serve_begun-ended.new.input before behind c.args.out.now _ c.new-answers.ensures.out
          (λ same. search rules) _ folder end c.serve_begun-ended.ensures.2;
    }
