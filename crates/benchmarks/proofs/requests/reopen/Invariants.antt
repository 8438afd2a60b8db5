use Rattle.host_session.specs.session.Opening.{IsAShop}
use Rattle.benchmarks.proofs.requests.reopen.Given as goal

abbrev pub invariant-loop-round : goal.invariant-loop-round
invariant-loop-round g l = IsAShop (g.D.Sectors.history.image l.fn.disk) → IsAShop (g.D.Sectors.history.image l.disk)
