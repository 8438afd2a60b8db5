-- Nothing is known of the folder.
use Rattle.image_log.specs.life.Folders.{IsImageWritten, with_sector}
use Rattle.image_log.proofs.lemmas.life.Mixed.{unwritten}
use Rattle.image_log.proofs.lemmas.life.Unknown.{acts}
use Rattle.image_log.proofs.life.plain_logs.AnyHostLogs.write_sector.Goals as goal

pub returns-clause-acts : goal.returns-clause-acts
returns-clause-acts g c =
    acts _ _ (with_sector c.args.index c.args.sector.now) (IsImageWritten c.args.index c.args.sector.now) _
    (unwritten c.args.index c.args.sector.now)
