-- The folder was made with the image.
use Rattle.std.proofs.Common.{◌∙◌, None, ap, refl}
use Rattle.image_log.specs.life.FolderCalls.{began}
use Rattle.test_files.proofs.snapshots.known_images.folder_with.Goals as goal

pub returns-clause-rests : goal.returns-clause-rests
returns-clause-rests c = record {
  some = began c.sectors_of.result.now None;
  held = c.in_ok-folder.ensures.held;
  is = (c.sectors_of.ensures.value, refl);
  left = λ s may. (ap (λ t. t.image) (c.in_ok-folder.ensures.left s may) ∙ c.sectors_of.ensures.value, ap (λ t. t.log) (c.in_ok-folder.ensures.left s may));
}
