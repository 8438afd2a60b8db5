use Rattle.std.proofs.Common.{length, ◌≡◌}
use Rattle.benchmarks.specs.Asked.{StaysOpen}
use Rattle.benchmarks.proofs.requests.ask_by_turns.Given as goal

abbrev pub invariant-loop-round : goal.invariant-loop-round
invariant-loop-round g l = StaysOpen g.D.Sectors.history l.fn.session l.session × (length l.tills ≡ 64)
