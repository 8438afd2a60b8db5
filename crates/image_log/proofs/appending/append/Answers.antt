-- Each moment of the write and of the sync.
use Rattle.image_log.proofs.Brought.{brings, brings_none}
use Rattle.image_log.proofs.appending.append.Goals as goal

pub returns-in_err-write_at-clause-brings : goal.returns-in_err-write_at-clause-brings
returns-in_err-write_at-clause-brings g c f rests within = brings_none g.F.LogFile.history c.args.file.now c.write_at.new.self
    c.args.at c.args.bytes.now f rests within c.write_at.result c.from_residual.result c.from_residual.ensures.0 c.write_at.ensures

pub returns-clause-brings : goal.returns-clause-brings
returns-clause-brings g c f rests within = brings g.F.LogFile.history c.args.file.now c.write_at.new.self c.args.at
    c.args.bytes.now f rests within c.write_at.result c.write_at.ensures c.in_ok-write_at.ensures.ok c.sync.new.self
    c.sync.result c.sync.ensures
