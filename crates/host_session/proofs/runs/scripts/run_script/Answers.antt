-- The lines go to the writer that is lent.
use Rattle.std.proofs.Common.{rules}
use Rattle.host_session.proofs.lemmas.runs.LentRuns.{written_script}
use Rattle.host_session.proofs.runs.scripts.run_script.Goals as goal

pub returns : goal.returns
returns g c =
    written_script g.D.Sectors.history g.W.Write.contents c.args.disk c.new-lines.result c.play_script.new.out
    c.args.script.now c.play_script.result c.play_script.ensures _ _ c.new-lines.ensures.out (λ same. search rules)
