-- The folder was made with the image.
use Rattle.std.proofs.Common.{◌∙◌, None, Some, ap, refl}
use Rattle.d64_image.specs.Images.{Image}
use Rattle.image_log.specs.life.FolderCalls.{began}
use Rattle.test_files.proofs.snapshots.host.Snapshot.folder_of.Goals as goal

pub returns : goal.returns
returns c path size = (
  c.in_ok-folder.folder,
  refl,
  c.in_ok-folder.ensures.held ∙ ap (λ (image : Image). Some (began image None)) c.sectors_of.ensures.value,
  λ s may. c.in_ok-folder.ensures.left s may ∙ ap (λ (image : Image). began image None) c.sectors_of.ensures.value,
)
