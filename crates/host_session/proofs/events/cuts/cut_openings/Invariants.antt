-- The shop stays through the openings so far, and so does an image at rest.
use Rattle.std.proofs.Common.{◌≤◌, ◌+◌}
use Rattle.std.specs.Prelude.{◌*◌}
use Rattle.host_session.specs.Held.{HeldOnly}
use Rattle.host_session.specs.session.Opening.{Untouched}
use Rattle.host_session.specs.shop.Shop.{IsSettled, IsShop, Shop}
use Rattle.host_session.proofs.events.cuts.cut_openings.Given as goal

abbrev pub invariant-loop-writes : goal.invariant-loop-writes
invariant-loop-writes g l =
    let h = g.D.Sectors.history in
    record {
      shop : (s : Shop) → IsShop (h.image l.fn.disk) s
          → HeldOnly h l.fn.disk l.disk (λ c. IsShop c s) × (h.failures l.fn.disk ≤ h.failures l.disk)
          × (h.writes l.disk ≤ h.writes l.fn.disk + 952 * l.writes-index);
      quiet : (s : Shop) → IsSettled (h.image l.fn.disk) s → Untouched h l.fn.disk l.disk;
    }
