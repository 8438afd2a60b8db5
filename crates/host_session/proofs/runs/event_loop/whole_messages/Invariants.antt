-- All that was taken of the source was handled and told.
use Rattle.std.proofs.Common.{◌≡◌, ◌≤◌, false}
use Rattle.host_session.specs.runs.Loops.{HasCome, Origin}
use Rattle.host_session.proofs.runs.event_loop.whole_messages.Given as goal

abbrev pub invariant-loop-asks : goal.invariant-loop-asks
invariant-loop-asks g l =
    let h = g.D.Sectors.history in
    let a = g.A.EventSource.source in
    let o = g.T.Replies.output in
    record {
      fuel : a.fuel l.asks ≤ a.fuel l.fn.asks;
      way : (from : Origin g.row.D.Denot g.row.A.Denot g.row.T.Denot)
          → HasCome h a o from l.fn.session.disk l.fn.asks l.fn.out → l.fn.session.dead ≡ false
          → (l.session.dead ≡ false) × HasCome h a o from l.session.disk l.asks l.out;
    }

abbrev pub decreases-loop-asks : goal.decreases-loop-asks
decreases-loop-asks g l = g.A.EventSource.source.fuel l.asks
