-- The bytes of the log in memory are read.
use Rattle.std.proofs.Common.{◌∙◌, Some, ap}
use Rattle.test_files.proofs.KnownFolders.{held-there}
use Rattle.test_files.proofs.snapshots.known_folder.SnapshotHostLogs.read_log.Goals as goal

pub returns-in-Some-read-clause-log : goal.returns-in-Some-read-clause-log
returns-in-Some-read-clause-log c s held =
    let there = held-there c.args.folder.now.image.folder c.in-Some.known s c.in-Some.is held in
    let opened = (rw c.in-Some-read.is at c.in_ok-read-in-Some.ensures.log) s there in
    (opened.0, opened.1, ap (λ bytes. Some bytes.items) c.of_read-file.ensures ∙ opened.2)

pub returns-in-None-read-clause-log : goal.returns-in-None-read-clause-log
returns-in-None-read-clause-log c s held =
    (rw c.in-None-read.is at c.in_ok-read-in-Some.ensures.log) s
    (held-there c.args.folder.now.image.folder c.in-Some.known s c.in-Some.is held)
