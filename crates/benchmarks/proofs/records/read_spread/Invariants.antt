use Rattle.std.proofs.Common.{◌≡◌, ◌≤◌, ◌*◌}
use Rattle.d64_image.specs.History.{OnlyReads}
use Rattle.benchmarks.proofs.records.read_spread.Given as goal

abbrev pub invariant-loop-round : goal.invariant-loop-round
invariant-loop-round g l = record {
  high : l.number ≤ 9256;
  reads : OnlyReads g.D.Sectors.history l.fn.disk l.disk (3 * l.round);
  failures : g.D.Sectors.history.failures l.disk ≡ g.D.Sectors.history.failures l.fn.disk;
}
