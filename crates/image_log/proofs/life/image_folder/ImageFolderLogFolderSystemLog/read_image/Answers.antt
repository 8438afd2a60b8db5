-- The image is read without its tag.
use Rattle.std.proofs.Common.{refl}
use Rattle.image_log.specs.life.Folders.{Same}
use Rattle.image_log.proofs.lemmas.life.Composed.{answered}
use Rattle.image_log.proofs.lemmas.life.Untagged.{looked}
use Rattle.image_log.proofs.life.image_folder.ImageFolderLogFolderSystemLog.read_image.Goals as goal

pub returns-clause-acts : goal.returns-clause-acts
returns-clause-acts g c =
    let one = looked (λ f. f.at) (λ f. f.checks.failed) (g.R.HostLogs.folders _ _ _) c.args.self.now
    (record { at = c.read_image.new.folder; image = c.args.self.now.image; log = c.args.self.now.log; tags = c.args.self.now.tags; checks = c.args.self.now.checks })
    refl _ c.in_ok-read_image.ensures.acts in
    answered (λ f. f.at) (λ f. f.checks.failed) (g.R.HostLogs.folders _ _ _) c.args.self.now _ _ (λ s. s) Same _ _ refl one.ok
    (record { failed = tt; passed = one.failures.passed }) one
