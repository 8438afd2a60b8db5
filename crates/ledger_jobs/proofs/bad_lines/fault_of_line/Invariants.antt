-- The lines that are counted stand before the rest.
use Rattle.std.proofs.Common.{◌+◌, ◌≤◌, length}
use Rattle.ledger_jobs.proofs.bad_lines.fault_of_line.Given as goal

abbrev pub invariant-loop-line : goal.invariant-loop-line
invariant-loop-line l = l.count + length l.rest ≤ length l.text

abbrev pub decreases-loop-line : goal.decreases-loop-line
decreases-loop-line l = length l.rest
