-- Nothing is known of the folder.
use Rattle.std.proofs.Common.{inl, refl}
use Rattle.image_log.specs.life.Folders.{IsRemoving, unlogged}
use Rattle.image_log.proofs.lemmas.life.Unknown.{acts}
use Rattle.image_log.proofs.life.plain_logs.AnyHostLogs.remove_log.Goals as goal

pub returns-clause-acts : goal.returns-clause-acts
returns-clause-acts g c = acts _ _ unlogged IsRemoving _ (λ s. inl refl)
