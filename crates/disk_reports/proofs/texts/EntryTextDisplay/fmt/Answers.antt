-- The name is printed up to its padding, and the rest as the slot has it.
use Rattle.std.proofs.Output.{has_written_of_eq}
use Rattle.disk_reports.proofs.Listings.{entry-written}
use Rattle.disk_reports.proofs.texts.EntryTextDisplay.fmt.Goals as goal

pub returns-clause-writes : goal.returns-clause-writes
returns-clause-writes g c =
    let bytes = c.new-entry.ensures in
    let name = rw bytes at c.name-bytes.ensures in
    λ plain done. has_written_of_eq _ _ _ _ _
    (rw (c.block_count.ensures, c.type_byte.ensures, bytes) (entry-written c.args.self.now.form c.args.self.now.slot.now
    c.name-bytes.result.now name))
    (c.write.ensures.writes plain done)
