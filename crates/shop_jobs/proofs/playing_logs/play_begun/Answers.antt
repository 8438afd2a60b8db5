-- The log of a play is landed.
use Rattle.shop_jobs.proofs.PlayedOver.{begun_play, landed_play}
use Rattle.shop_jobs.proofs.playing_logs.play_begun.Goals as goal

pub returns-clause-played : goal.returns-clause-played
returns-clause-played g c =
    begun_play g.D.LogFolder.history g.T.BatchReplies.output c.args.image.now c.args.script.now c.args.log c.play_logged.new.log
    c.args.out.now c.play_logged.new.out c.play_logged.result c.run_end-ended.result c.served_end.result _
    c.landed_end.result.0 c.landed_end.result.1 c.run_end-ended.ensures c.served_end.ensures c.landed_end.ensures
    (c.play_logged.ensures.run c.requires.plain)

pub returns-clause-landed : goal.returns-clause-landed
returns-clause-landed g c = λ s shop stands ok.
    landed_play g.D.LogFolder.history g.T.BatchReplies.output c.args.image.now c.args.script.now c.args.log c.play_logged.new.log
    c.args.out.now c.play_logged.new.out c.play_logged.result c.run_end-ended.result c.served_end.result _
    c.landed_end.result.0 c.landed_end.result.1 c.run_end-ended.ensures c.served_end.ensures c.landed_end.ensures
    (c.play_logged.ensures.run c.requires.plain) s shop stands ok
