-- These numbers were read, and this rest is left.
use Rattle.std.proofs.Common.{length}
use Rattle.ledger_cli.proofs.Listed.{AreRead}
use Rattle.ledger_cli.proofs.positions.positions_of.Given as goal

abbrev pub invariant-loop-start : goal.invariant-loop-start
invariant-loop-start l = AreRead l.text l.rest l.list.items

abbrev pub decreases-loop-start : goal.decreases-loop-start
decreases-loop-start l = length l.rest
