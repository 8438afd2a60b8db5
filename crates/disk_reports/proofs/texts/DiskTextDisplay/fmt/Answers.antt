-- The name is printed up to its padding.
use Rattle.std.proofs.Output.{has_written_of_eq}
use Rattle.disk_reports.proofs.Listings.{disk-written}
use Rattle.disk_reports.proofs.texts.DiskTextDisplay.fmt.Goals as goal

pub returns-clause-writes : goal.returns-clause-writes
returns-clause-writes g c = λ plain done. has_written_of_eq _ _ _ _ _
    (rw (c.id.ensures, c.version.ensures) (disk-written c.args.self.now.form c.args.self.now.map.bytes.now c.name.result.now
    c.name.ensures))
    (c.write.ensures.writes plain done)
