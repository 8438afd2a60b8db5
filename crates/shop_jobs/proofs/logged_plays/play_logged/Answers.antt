-- A script without resets is served as lines.
use Rattle.shop_jobs.proofs.PlayedOver.{logged_play}
use Rattle.shop_jobs.proofs.logged_plays.play_logged.Goals as goal

pub returns-clause-run : goal.returns-clause-run
returns-clause-run g c = λ none.
    logged_play g.L.ImageLog.history g.T.BatchReplies.output c.args.image.now c.args.script.now c.args.log.now
    c.serve_logged.new.log c.new-left.result c.serve_logged.new.input c.args.out.now c.serve_logged.new.out c.new-left.ensures
    c.serve_logged.result c.serve_logged.ensures.run
