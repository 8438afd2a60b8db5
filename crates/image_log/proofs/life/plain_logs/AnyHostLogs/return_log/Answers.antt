-- Nothing is known of the folder.
use Rattle.image_log.proofs.lemmas.life.Unknown.{returned}
use Rattle.image_log.proofs.life.plain_logs.AnyHostLogs.return_log.Goals as goal

pub returns : goal.returns
returns g c = returned _ _ _ _
