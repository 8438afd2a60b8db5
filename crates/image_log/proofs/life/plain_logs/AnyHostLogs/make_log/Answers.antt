-- Nothing is known of the folder.
use Rattle.std.proofs.Common.{refl}
use Rattle.image_log.specs.life.Folders.{IsMaking, being_made}
use Rattle.image_log.proofs.lemmas.life.Unknown.{acts}
use Rattle.image_log.proofs.life.plain_logs.AnyHostLogs.make_log.Goals as goal

pub returns-in_err-like-clause-acts : goal.returns-in_err-like-clause-acts
returns-in_err-like-clause-acts g c = acts _ _ being_made IsMaking _ (λ s. record { image = refl; log = refl })

pub returns-in_err-forget_making-clause-acts : goal.returns-in_err-forget_making-clause-acts
returns-in_err-forget_making-clause-acts g c = acts _ _ being_made IsMaking _ (λ s. record { image = refl; log = refl })

pub returns-in_err-file-clause-acts : goal.returns-in_err-file-clause-acts
returns-in_err-file-clause-acts g c = acts _ _ being_made IsMaking _ (λ s. record { image = refl; log = refl })

pub returns-clause-acts : goal.returns-clause-acts
returns-clause-acts g c = acts _ _ being_made IsMaking _ (λ s. record { image = refl; log = refl })
