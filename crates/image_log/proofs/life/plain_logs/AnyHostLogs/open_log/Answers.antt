-- Nothing is known of the folder.
use Rattle.std.specs.Prelude.{Err, IfOk, Ok, Result}
use Rattle.image_log.specs.life.Folders.{LogOf}
use Rattle.image_log.specs.life.Unknown.{unknown_file, unknown_folder}
use Rattle.image_log.proofs.lemmas.life.Unknown.{log_of}
use Rattle.image_log.proofs.life.plain_logs.AnyHostLogs.open_log.Goals as goal

any : {D F E : Type 0} (d : D) (r : Result F E) → IfOk r (LogOf unknown_folder unknown_file d)
any d (Ok file) = log_of d file
any d (Err e) = tt

pub returns-clause-file : goal.returns-clause-file
returns-clause-file g c = any _ _
