-- The folder is the one of the file.
use Rattle.test_files.proofs.snapshots.known_images.change_in.Goals as goal

pub returns-clause-run : goal.returns-clause-run
returns-clause-run g c = (c.in_ok-folder.folder, c.change_image.new.folder, c.in_ok-folder.ensures.2, c.change_image.ensures.run)
