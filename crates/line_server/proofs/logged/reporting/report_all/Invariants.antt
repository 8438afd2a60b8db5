-- The replies so far.
use Rattle.std.proofs.Common.{take}
use Rattle.line_server.proofs.lemmas.logged.Reported.{AllTold}
use Rattle.line_server.proofs.logged.reporting.report_all.Given as goal

abbrev pub invariant-loop-reply : goal.invariant-loop-reply
invariant-loop-reply g l = AllTold (g.T.BatchReplies.output) l.log l.fn.out l.out (take l.reply-index l.replies)
