-- Of bytes that weren't written whole a part was, or none.
use Rattle.std.proofs.Common.{length, refl, sym}
use Rattle.std.proofs.Math.Seq.{take-length}
use Rattle.test_files.proofs.Written.{part_written}
use Rattle.test_files.specs.Disks.{disk_bytes}
use Rattle.test_files.proofs.disk_file.write.Goals as goal

pub returns-in-Some-clause-written : goal.returns-in-Some-clause-written
returns-in-Some-clause-written c =
    part_written (disk_bytes c.args.held.now) (disk_bytes c.put.new.self) c.args.at c.args.bytes.now _ _ refl
    c.put.ensures.stays.now

pub returns-in-Ok-false-clause-written : goal.returns-in-Ok-false-clause-written
returns-in-Ok-false-clause-written c =
    part_written (disk_bytes c.args.held.now) (disk_bytes c.put-in-None.new.self) c.args.at c.args.bytes.now
    c.args.bytes.now (length c.args.bytes.now) (sym (take-length c.args.bytes.now)) c.put-in-None.ensures.stays.now
