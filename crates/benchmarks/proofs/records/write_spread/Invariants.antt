use Rattle.std.proofs.Common.{◌≡◌, ◌≤◌}
use Rattle.disk_layout.specs.Clean.{IsClean}
use Rattle.rel_records.specs.File.{IsOf}
use Rattle.benchmarks.proofs.records.write_spread.Given as goal

abbrev pub invariant-loop-round : goal.invariant-loop-round
invariant-loop-round g l =
    let S = g.D.Sectors.history in
    record {
      high : l.number ≤ 9256;
      clean : IsClean (S.image l.disk);
      of : IsOf (S.image l.disk) l.file;
      failures : S.failures l.disk ≡ S.failures l.fn.disk;
    }
