-- The line so far.
use Rattle.line_server.proofs.Kept.{HasRead}
use Rattle.line_server.proofs.reading.read_line.Given as goal

abbrev pub invariant-loop : goal.invariant-loop
invariant-loop g l = HasRead (g.R.Read.remaining l.fn.input) (g.R.Read.remaining l.input) l.line.items
