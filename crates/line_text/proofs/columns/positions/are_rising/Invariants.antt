-- All of them rise exactly if those that are left do, after the last one that was seen.
use Rattle.std.proofs.Common.{◌↔◌, drop}
use Rattle.line_text.specs.columns.Positions.{AreRising}
use Rattle.line_text.proofs.columns.positions.are_rising.Given as goal

abbrev pub invariant-loop-start : goal.invariant-loop-start
invariant-loop-start l = AreRising l.before (drop l.start-index l.list) ↔ AreRising 0 l.list
