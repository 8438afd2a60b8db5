-- The log in the making is filled.
use Rattle.image_log.proofs.lemmas.life.Replaced.{abandoned_moments, is_made, making_moments}
use Rattle.image_log.proofs.life.replacing.make_replacing.Goals as goal

pub returns-in_err-file-clause-any_moment : goal.returns-in_err-file-clause-any_moment
returns-in_err-file-clause-any_moment g c log rests = making_moments g.D.LogFolder.history c.args.folder.now
    c.make_log.new.self log c.args.now.now rests c.make_log.result c.make_log.ensures.acts

pub returns-in-Ok-clause-any_moment : goal.returns-in-Ok-clause-any_moment
returns-in-Ok-clause-any_moment g c log rests = making_moments g.D.LogFolder.history c.args.folder.now
    c.make_log.new.self log c.args.now.now rests c.make_log.result c.make_log.ensures.acts

pub returns-in-Ok-clause-ok : goal.returns-in-Ok-clause-ok
returns-in-Ok-clause-ok g c log rests = is_made g.D.LogFolder.history c.args.folder.now c.make_log.new.self log c.args.now.now rests
    c.make_log.result c.make_log.ensures.acts g.F.LogFile.history c.make_marked.new.file c.args.shop.now
    c.in_ok-file.ensures.acts.ok (c.in-Ok.ensures.ok (c.in_ok-file.ensures.known rests.some rests.held))

pub returns-clause-any_moment : goal.returns-clause-any_moment
returns-clause-any_moment g c log rests = abandoned_moments g.D.LogFolder.history c.args.folder.now
    c.make_log.new.self log c.args.now.now rests c.make_log.result c.make_log.ensures.acts g.F.LogFile.history c.leave_making.new.self
    c.make_marked.new.file c.leave_making.ensures
