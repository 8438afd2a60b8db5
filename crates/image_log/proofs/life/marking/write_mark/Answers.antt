-- One write and one sync.
use Rattle.image_log.proofs.lemmas.life.Marks.{is_put_at_ok, put_left}
use Rattle.image_log.proofs.life.marking.write_mark.Goals as goal

pub returns-clause-left : goal.returns-clause-left
returns-clause-left g c = put_left g.F.LogFile.history c.args.file.now c.write_at.new.self c.sync.new.self c.write_at.result
    c.write_at.ensures c.sync.result c.sync.ensures

pub returns-clause-ok : goal.returns-clause-ok
returns-clause-ok g c = is_put_at_ok g.F.LogFile.history c.args.file.now c.write_at.new.self c.sync.new.self c.write_at.result
    c.write_at.ensures c.sync.result c.sync.ensures c.in_ok-write_at.ensures.ok
