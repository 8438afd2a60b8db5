use Rattle.std.proofs.Common.{◌≡◌, ◌≤◌, ◌+◌}
use Rattle.benchmarks.proofs.sectors.run.Given as goal

abbrev pub invariant-loop-round : goal.invariant-loop-round
invariant-loop-round g l =
    let S = g.D.Sectors.history in
    record {
      reads : S.reads l.disk ≤ S.reads l.fn.disk + l.round;
      writes : S.writes l.disk ≤ S.writes l.fn.disk + l.round;
      failures : S.failures l.disk ≡ S.failures l.fn.disk;
    }
