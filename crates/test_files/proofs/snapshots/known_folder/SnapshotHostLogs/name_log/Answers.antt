-- The log in memory got the name in the folder in memory.
use Rattle.std.proofs.Common.{refl}
use Rattle.image_log.specs.life.Folders.{IsNaming, named}
use Rattle.test_files.proofs.KnownFolders.{acts}
use Rattle.test_files.proofs.snapshots.known_folder.SnapshotHostLogs.name_log.Goals as goal

pub returns-in-Some-clause-acts : goal.returns-in-Some-clause-acts
returns-in-Some-clause-acts c f held only = acts c.args.folder.now _ (λ d. d.image.folder) c.in-Some.known c.name_log.new.self
    c.in-Some.is refl (named f) (IsNaming f) c.name_log.result (c.name_log.ensures.acts f held only)
