-- All that was taken of the source was handled and told, but the event that was taken last, which has a reset.
use Rattle.std.proofs.Common.{◌≡◌, false}
use Rattle.std.specs.Prelude.{IsSome}
use Rattle.host_session.specs.runs.Loops.{HasComeBut, Origin}
use Rattle.host_session.proofs.runs.event_loop.run_on.Given as goal

abbrev pub invariant-loop-next : goal.invariant-loop-next
invariant-loop-next g l =
    let h = g.D.Sectors.history in
    let a = g.A.EventSource.source in
    let o = g.T.Replies.output in
    record {
      cut : IsSome (a.here l.asks).cut_after;
      way : (from : Origin g.row.D.Denot g.row.A.Denot g.row.T.Denot)
          → HasComeBut h a o from l.fn.session.disk l.fn.asks l.fn.out
          → l.fn.session.dead ≡ false → (l.session.dead ≡ false) × HasComeBut h a o from l.session.disk l.asks l.out;
    }

abbrev pub decreases-loop-next : goal.decreases-loop-next
decreases-loop-next g l = g.A.EventSource.source.fuel l.asks
