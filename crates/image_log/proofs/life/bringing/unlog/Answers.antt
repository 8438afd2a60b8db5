-- The name is taken away, and the names are synced.
use Rattle.image_log.proofs.lemmas.life.Brought.{removed_moments, unlogged_moments, unlogged_ok}
use Rattle.image_log.proofs.life.bringing.unlog.Goals as goal

pub returns-in_err-remove_log-clause-any_moment : goal.returns-in_err-remove_log-clause-any_moment
returns-in_err-remove_log-clause-any_moment g c shop all = removed_moments g.D.LogFolder.history c.args.folder.now
    c.remove_log.new.self shop all c.remove_log.result c.remove_log.ensures.acts

pub returns-clause-any_moment : goal.returns-clause-any_moment
returns-clause-any_moment g c shop all = unlogged_moments g.D.LogFolder.history c.args.folder.now c.remove_log.new.self shop all
    c.remove_log.result c.remove_log.ensures.acts c.sync_folder.new.self c.sync_folder.result c.sync_folder.ensures

pub returns-clause-ok : goal.returns-clause-ok
returns-clause-ok g c = unlogged_ok g.D.LogFolder.history c.args.folder.now c.remove_log.new.self c.sync_folder.new.self
    c.remove_log.result c.remove_log.ensures.acts c.in_ok-remove_log.ensures.acts.ok c.sync_folder.result c.sync_folder.ensures
