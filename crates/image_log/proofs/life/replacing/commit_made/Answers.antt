-- The name of the log, between two syncs of the names.
use Rattle.image_log.proofs.lemmas.life.Replaced.{committed_moments, is_committed, lasting_moments, naming_moments, synced_moments}
use Rattle.image_log.proofs.lemmas.life.Times.{on_ok}
use Rattle.image_log.proofs.life.replacing.commit_made.Goals as goal

pub returns-in_err-sync_folder-clause-any_moment : goal.returns-in_err-sync_folder-clause-any_moment
returns-in_err-sync_folder-clause-any_moment g c log before after made =
    synced_moments g.D.LogFolder.history g.F.LogFile.history c.args.folder.now c.args.file log before after made
    c.sync_folder.new.self c.sync_folder.result c.sync_folder.ensures

pub returns-in_err-name_log-clause-any_moment : goal.returns-in_err-name_log-clause-any_moment
returns-in_err-name_log-clause-any_moment g c log before after made =
    naming_moments g.D.LogFolder.history g.F.LogFile.history c.args.folder.now c.args.file log before after made
    c.sync_folder.new.self c.sync_folder.result c.sync_folder.ensures c.in_ok-sync_folder.ensures.ok c.name_log.new.self
    c.name_log.result (c.name_log.ensures.acts made.marked.bytes made.marked.held made.marked.durable)

pub returns-in_err-sync_folder-2-clause-any_moment : goal.returns-in_err-sync_folder-2-clause-any_moment
returns-in_err-sync_folder-2-clause-any_moment g c log before after made =
    lasting_moments g.D.LogFolder.history g.F.LogFile.history c.args.folder.now c.args.file log before after made
    c.sync_folder.new.self c.sync_folder.result c.sync_folder.ensures c.in_ok-sync_folder.ensures.ok c.name_log.new.self
    c.name_log.result (c.name_log.ensures.acts made.marked.bytes made.marked.held made.marked.durable)
    c.sync_folder-2.new.self c.sync_folder-2.result c.sync_folder-2.ensures

pub returns-clause-any_moment : goal.returns-clause-any_moment
returns-clause-any_moment g c log before after made =
    committed_moments g.D.LogFolder.history g.F.LogFile.history c.args.folder.now c.args.file log before after made
    c.sync_folder.new.self c.sync_folder.result c.sync_folder.ensures c.in_ok-sync_folder.ensures.ok c.name_log.new.self
    c.name_log.result (c.name_log.ensures.acts made.marked.bytes made.marked.held made.marked.durable)
    c.sync_folder-2.new.self c.sync_folder-2.result c.sync_folder-2.ensures
    (c.in_ok-name_log.ensures.acts made.marked.bytes made.marked.held made.marked.durable).ok c.in_ok-sync_folder-2.ensures.ok
    c.in_ok-name_log.ensures.lent c.close_log.new.self c.close_log.result c.close_log.ensures.returned

pub returns-clause-ok : goal.returns-clause-ok
returns-clause-ok g c = on_ok _ _ c.close_log.result (λ back log before after made.
    is_committed g.D.LogFolder.history g.F.LogFile.history c.args.folder.now c.args.file log before after made
    c.sync_folder.new.self c.sync_folder.result c.sync_folder.ensures c.in_ok-sync_folder.ensures.ok c.name_log.new.self
    c.name_log.result (c.name_log.ensures.acts made.marked.bytes made.marked.held made.marked.durable)
    c.sync_folder-2.new.self c.sync_folder-2.result c.sync_folder-2.ensures
    (c.in_ok-name_log.ensures.acts made.marked.bytes made.marked.held made.marked.durable).ok c.in_ok-sync_folder-2.ensures.ok
    c.in_ok-name_log.ensures.lent c.close_log.new.self c.close_log.result c.close_log.ensures.returned back)
    c.close_log.ensures.returned.held
