use Rattle.std.proofs.Common.{subst, sym}
use Rattle.host_session.specs.session.Opening.{IsAShop}
use Rattle.benchmarks.proofs.requests.reopen.Goals as goal

-- a disk that is opened was a shop's, and is the same shop's
pub loop-round-preserved : goal.loop-round-preserved
loop-round-preserved g c =
    let (s, was, settled, alive) = c.in_ok-open.ensures.ok in
    λ h. subst (λ d. IsAShop (g.D.Sectors.history.image d)) (sym c.close-disk.ensures) (s, settled.shop)
