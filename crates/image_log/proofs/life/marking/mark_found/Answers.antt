-- The log is opened, marked, and closed.
use Rattle.image_log.proofs.lemmas.life.Marks.{mark_held, mark_moments, mark_stays}
use Rattle.image_log.proofs.lemmas.life.Times.{on_ok}
use Rattle.image_log.proofs.life.marking.mark_found.Goals as goal

pub returns-in_err-marked-clause-any_moment : goal.returns-in_err-marked-clause-any_moment
returns-in_err-marked-clause-any_moment g c shops s f found log =
    mark_moments g.D.LogFolder.history g.F.LogFile.history c.args.folder.now shops s found c.in_ok-file.file
    c.write_mark-marked.new.file c.in_ok-file.ensures.file c.write_mark-marked.ensures.outcomes c.open_log.new.self
    c.close_log-closed.new.self c.open_log.result c.open_log.ensures.acts c.in_ok-file.ensures.lent
    c.write_mark-marked.ensures.left c.close_log-closed.result c.close_log-closed.ensures.returned

pub returns-clause-any_moment : goal.returns-clause-any_moment
returns-clause-any_moment g c shops s f found log =
    mark_moments g.D.LogFolder.history g.F.LogFile.history c.args.folder.now shops s found c.in_ok-file.file
    c.write_mark-marked.new.file c.in_ok-file.ensures.file c.write_mark-marked.ensures.outcomes c.open_log.new.self
    c.close_log-closed.new.self c.open_log.result c.open_log.ensures.acts c.in_ok-file.ensures.lent
    c.write_mark-marked.ensures.left c.close_log-closed.result c.close_log-closed.ensures.returned

pub returns-clause-ok : goal.returns-clause-ok
returns-clause-ok g c = on_ok _ _ c.close_log-closed.result (λ back shops s f found log. (
  mark_held g.D.LogFolder.history g.F.LogFile.history c.args.folder.now shops s found c.in_ok-file.file
      c.write_mark-marked.new.file c.in_ok-file.ensures.file c.write_mark-marked.ensures.outcomes c.open_log.new.self
      c.close_log-closed.new.self c.open_log.result c.open_log.ensures.acts c.in_ok-file.ensures.lent
      c.write_mark-marked.ensures.left c.close_log-closed.result c.close_log-closed.ensures.returned back f log
      c.in_ok-file.ensures.acts.ok (c.in_ok-marked.ensures.ok f),
  mark_stays g.D.LogFolder.history g.F.LogFile.history c.args.folder.now shops s found c.in_ok-file.file
      c.write_mark-marked.new.file c.in_ok-file.ensures.file c.write_mark-marked.ensures.outcomes c.open_log.new.self
      c.close_log-closed.new.self c.open_log.result c.open_log.ensures.acts c.in_ok-file.ensures.lent
      c.write_mark-marked.ensures.left c.close_log-closed.result c.close_log-closed.ensures.returned back f log
      c.in_ok-file.ensures.acts.ok (c.in_ok-marked.ensures.ok f),
)) c.close_log-closed.ensures.returned.held
