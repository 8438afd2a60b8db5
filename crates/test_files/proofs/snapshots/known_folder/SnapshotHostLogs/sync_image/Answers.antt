-- The folder in memory was synced.
use Rattle.std.proofs.Common.{refl}
use Rattle.image_log.specs.life.Folders.{HasImage}
use Rattle.test_files.proofs.KnownFolders.{brings}
use Rattle.test_files.proofs.snapshots.known_folder.SnapshotHostLogs.sync_image.Goals as goal

pub returns-in-Some-clause-brings : goal.returns-in-Some-clause-brings
returns-in-Some-clause-brings c = brings c.args.folder.now _ (λ d. d.image.folder) c.in-Some.known c.sync_image.new.self c.in-Some.is refl HasImage
    c.sync_image.result c.sync_image.ensures
