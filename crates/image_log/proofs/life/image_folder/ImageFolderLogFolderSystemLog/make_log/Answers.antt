-- A log is made, in the folder without the tag of IMAGE.
use Rattle.std.proofs.Common.{ap, refl}
use Rattle.image_log.specs.life.Folders.{IsMaking, being_made}
use Rattle.image_log.specs.life.Tags.{untagged_image}
use Rattle.image_log.proofs.lemmas.life.Composed.{answered, handed_on, refused}
use Rattle.image_log.proofs.lemmas.life.Untagged.{alike}
use Rattle.image_log.proofs.life.image_folder.ImageFolderLogFolderSystemLog.make_log.Goals as goal

pub returns-in_err-file-clause-acts : goal.returns-in_err-file-clause-acts
returns-in_err-file-clause-acts g c =
    handed_on (λ f. f.at) (λ f. f.checks.failed) (g.R.HostLogs.folders _ _ _) _ _ being_made IsMaking _ _ refl c.from_residual.ensures.0
    (alike (λ f. f.at) (λ f. f.checks.failed) (g.R.HostLogs.folders _ _ _) c.args.self.now _ refl being_made IsMaking _ (λ s. refl)
    (λ from s made. record { image = ap untagged_image made.image; log = made.log }) c.in_err-file.ensures.acts)

pub returns-in_err-identity-clause-acts : goal.returns-in_err-identity-clause-acts
returns-in_err-identity-clause-acts g c =
    refused (λ f. f.at) (λ f. f.checks.failed) (g.R.HostLogs.folders _ _ _) _ _ _ being_made IsMaking _ _ refl c.from_residual-in_err-identity.ensures.0
    c.in_err-identity.ensures.failed
    (alike (λ f. f.at) (λ f. f.checks.failed) (g.R.HostLogs.folders _ _ _) c.args.self.now
    (record { at = c.make_log.new.folder; image = c.args.self.now.image; log = c.args.self.now.log; tags = c.args.self.now.tags; checks = c.args.self.now.checks })
    refl being_made IsMaking _ (λ s. refl)
    (λ from s made. record { image = ap untagged_image made.image; log = made.log }) c.in_ok-file.ensures.acts)

pub returns-clause-acts : goal.returns-clause-acts
returns-clause-acts g c =
    let one = alike (λ f. f.at) (λ f. f.checks.failed) (g.R.HostLogs.folders _ _ _) c.args.self.now
    (record { at = c.make_log.new.folder; image = c.args.self.now.image; log = c.args.self.now.log; tags = c.args.self.now.tags; checks = c.identity_of.new.self })
    c.in_ok-identity.ensures.passed being_made IsMaking _ (λ s. refl)
    (λ from s made. record { image = ap untagged_image made.image; log = made.log }) c.in_ok-file.ensures.acts in
    answered (λ f. f.at) (λ f. f.checks.failed) (g.R.HostLogs.folders _ _ _) _ _ _ being_made IsMaking _ _ refl one.ok
    (record { failed = tt; passed = one.failures.passed }) one
