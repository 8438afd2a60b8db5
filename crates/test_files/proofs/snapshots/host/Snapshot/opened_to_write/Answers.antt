-- The file has the folder that was made.
use Rattle.std.proofs.Common.{◌∙◌}
use Rattle.test_files.proofs.snapshots.host.Snapshot.opened_to_write.Goals as goal

pub returns-clause-opened : goal.returns-clause-opened
returns-clause-opened c path size =
    let fresh = c.in_ok-folder.ensures path size in
    (fresh.0, c.in_folder.ensures.folder ∙ fresh.1, fresh.2, fresh.3)
