-- The sectors so far.
use Rattle.line_server.proofs.lemmas.logged.Bringing.{AreBrought}
use Rattle.line_server.proofs.logged.keeping.take_changes.Given as goal

abbrev pub invariant-loop-i : goal.invariant-loop-i
invariant-loop-i l = AreBrought l.fn.kept l.kept l.now l.marked l.touched l.i
