-- The folder in memory was synced.
use Rattle.std.proofs.Common.{refl}
use Rattle.image_log.specs.life.Folders.{HasNames}
use Rattle.test_files.proofs.KnownFolders.{brings}
use Rattle.test_files.proofs.snapshots.known_folder.SnapshotHostLogs.sync_folder.Goals as goal

pub returns-in-Some-clause-brings : goal.returns-in-Some-clause-brings
returns-in-Some-clause-brings c = brings c.args.folder.now _ (λ d. d.image.folder) c.in-Some.known c.sync_folder.new.self c.in-Some.is refl HasNames
    c.sync_folder.result c.sync_folder.ensures
