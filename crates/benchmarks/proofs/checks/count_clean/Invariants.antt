use Rattle.benchmarks.specs.Tallies.{IsTally}
use Rattle.benchmarks.proofs.checks.count_clean.Given as goal

abbrev pub invariant-loop-round : goal.invariant-loop-round
invariant-loop-round g l = IsTally g.D.Sectors.history l.fn.disk l.disk l._round l.count
