-- The directory of a sound disk is read, or the device failed.
use Rattle.std.proofs.Common.{refl}
use Rattle.rel_records.proofs.lemmas.reading.Found.{directory-failed, slots-listed}
use Rattle.rel_records.proofs.reading.finding.list_slots.Goals as goal

pub returns-in-Ok : goal.returns-in-Ok
returns-in-Ok g c =
    record {
      ok = λ l is.
          let (ps, d) = c.in-Ok.ensures.ok in
          slots-listed (g.D.Sectors.history.image c.args.disk.now) l ps c.read_directory.new.slots.items is d;
      err = tt;
      reads = c.read_directory.ensures.reads;
      failures = c.in-Ok.ensures.failures;
    }

pub returns-in-Err : goal.returns-in-Err
returns-in-Err g c =
    let S = g.D.Sectors.history in
    record {
      ok = tt;
      err = refl;
      reads = c.read_directory.ensures.reads;
      failures = directory-failed (Unit {0}) S c.args.disk.now c.read_directory.new.disk _ (S.image c.args.disk.now)
          c.in-Err.field-0 c.requires.sound c.in-Err.ensures.err c.in-Err.ensures.failures;
    }
