-- What is synced is synced without the tag.
use Rattle.std.proofs.Common.{ap, refl}
use Rattle.image_log.specs.life.Folders.{HasImage}
use Rattle.image_log.specs.life.Tags.{untagged_image}
use Rattle.image_log.proofs.lemmas.life.Untagged.{brought}
use Rattle.image_log.proofs.life.image_folder.ImageFolderLogFolderSystemLog.sync_image.Goals as goal

pub returns : goal.returns
returns g c = brought (λ f. f.at) (λ f. f.checks.failed) (g.R.HostLogs.folders _ _ _) c.args.self.now _ refl HasImage c.sync_image.result
    (λ s t is. ap untagged_image is) c.sync_image.ensures.brings
