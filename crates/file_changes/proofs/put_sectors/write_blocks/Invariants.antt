use Rattle.std.proofs.Common.{◌≡◌, ◌≤◌, ◌-◌, length}
use Rattle.d64_image.specs.History.{Changes}
use Rattle.file_changes.proofs.Chained.{IsWrittenFrom}
use Rattle.file_changes.specs.PutWrites.{SameBeside}
use Rattle.file_changes.proofs.put_sectors.write_blocks.Given as goal

abbrev pub invariant-loop-written : goal.invariant-loop-written
invariant-loop-written g l = record {
  done : IsWrittenFrom (g.D.Sectors.history.image l.fn.disk) (g.D.Sectors.history.image l.disk) l.places l.content
      (length l.places - l.written);
  changes : Changes g.D.Sectors.history l.fn.disk l.disk l.written (SameBeside (g.D.Sectors.history.image l.fn.disk)
      l.places);
  reads : g.D.Sectors.history.reads l.disk ≤ g.D.Sectors.history.reads l.fn.disk;
  failures : g.D.Sectors.history.failures l.disk ≡ g.D.Sectors.history.failures l.fn.disk;
}
