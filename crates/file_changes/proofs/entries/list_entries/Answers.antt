-- The directory of a sound disk is read, or the device failed.
use Rattle.file_changes.proofs.entries.list_entries.Goals as goal
use Rattle.rel_records.proofs.lemmas.reading.Found.{directory-failed, slots-listed}

pub returns-in-Ok-clause-ok : goal.returns-in-Ok-clause-ok
returns-in-Ok-clause-ok g c = λ l is.
    let (ps, d) = c.in-Ok.ensures.ok in
    slots-listed (g.D.Sectors.history.image c.args.disk.now) l ps c.read_directory.new.slots.items is d

pub returns-in-Err-clause-failures : goal.returns-in-Err-clause-failures
returns-in-Err-clause-failures g c =
    let S = g.D.Sectors.history in
    directory-failed (Unit {0}) S c.args.disk.now c.read_directory.new.disk _ (S.image c.args.disk.now)
    c.in-Err.field-0 c.requires.sound c.in-Err.ensures.err c.in-Err.ensures.failures
