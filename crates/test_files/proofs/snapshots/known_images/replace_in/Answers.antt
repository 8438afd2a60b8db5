-- The folder is the one of the file.
use Rattle.test_files.proofs.snapshots.known_images.replace_in.Goals as goal

pub returns : goal.returns
returns g c = (
  c.in_ok-folder.folder,
  c.put_image_in.new.folder,
  c.in_ok-folder.ensures.2,
  c.put_image_in.ensures.any_moment,
  c.put_image_in.ensures.ok,
)
