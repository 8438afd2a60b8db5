-- Nothing is known of the file.
use Rattle.image_log.proofs.lemmas.life.Unknown.{writes}
use Rattle.image_log.proofs.life.plain_logs.AnyHostLogs.write_at.Goals as goal

pub returns-clause-written : goal.returns-clause-written
returns-clause-written g c = writes _ _ _ _ _
