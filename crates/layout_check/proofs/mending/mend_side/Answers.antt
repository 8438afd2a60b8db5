-- The sector is read, and written if it has other bytes.
use Rattle.std.proofs.Common.{[], ◌∷◌, arith}
use Rattle.std.proofs.lemmas.Result.{err_from_is_err_and}
use Rattle.layout_check.proofs.lemmas.mending.MapMends.{device_later, device_told, write_device}
use Rattle.layout_check.proofs.lemmas.repairing.MakesRights.{makes_none, makes_one}
use Rattle.layout_check.proofs.mending.mend_side.Goals as goal

pub returns-in_err-read_sector : goal.returns-in_err-read_sector
returns-in_err-read_sector g c =
    let S = g.D.Sectors.history in
    let read = c.in_err-read_sector.ensures in
    let p = err_from_is_err_and c.from_residual.result c.from_residual.ensures.1 in
    record {
      right = λ l only. rw p.1 (makes_none S l (c.args.side ∷ []) c.args.disk.now c.read_sector.new.disk 1 _ read.reads);
      failures = rw (p.1, p.2) (device_told S (Unit {0}) c.args.disk.now c.read_sector.new.disk c.args.side _ read.told
          read.failures read.failed);
      reads = read.reads.reads;
    }

pub returns : goal.returns
returns g c =
    let S = g.D.Sectors.history in
    let a = c.args.disk.now in
    let read = c.in_ok-read_sector.ensures in
    let done = c.write_other.ensures in
    record {
      right = λ l only. makes_one S l c.args.side c.args.wanted.now c.read_sector.new.to a c.read_sector.new.disk
          c.write_other.new.disk c.write_other.result only.right (only.only _) read.reads read.sector done.write done.once done.quiet;
      failures = device_later S (Unit {0}) a c.read_sector.new.disk c.write_other.new.disk c.write_other.result
          read.failures (write_device S (Unit {0}) c.read_sector.new.disk c.write_other.new.disk c.args.side
          c.args.wanted.now c.write_other.result done.write);
      reads = omega (arith, read.reads.reads, done.write.reads);
    }
