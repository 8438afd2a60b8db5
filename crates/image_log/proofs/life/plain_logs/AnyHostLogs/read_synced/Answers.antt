-- Nothing is known of the folder.
use Rattle.image_log.proofs.lemmas.life.Unknown.{anything}
use Rattle.image_log.proofs.life.plain_logs.AnyHostLogs.read_synced.Goals as goal

pub returns-clause-left : goal.returns-clause-left
returns-clause-left g c = anything _ c.read_sector.result
