-- A log isn't opened at the path of the image.
use Rattle.std.proofs.Common.{◌∙◌, sym}
use Rattle.std.specs.Prelude.{string_bytes}
use Rattle.test_files.proofs.NamesApart.{no-log}
use Rattle.test_files.proofs.snapshots.known_folder.SnapshotHostLogs.open_log.Goals as goal

pub returns-clause-opened : goal.returns-clause-opened
returns-clause-opened c = λ at size. absurd
    (no-log (string_bytes c.args.folder.now.names.now.image) (sym c.args.folder.now.names.now.beside ∙ at))
