use Rattle.std.proofs.Common.{◌≡◌, ◌≤◌, false}
use Rattle.host_session.specs.Held.{Changes}
use Rattle.host_session.specs.shop.Selecting.{IsReady}
use Rattle.host_session.specs.session.Settling.{HasClosedTable, HasNewTable}
use Rattle.host_session.specs.shop.Shop.{IsShop, Shop, any_old}
use Rattle.host_session.proofs.session.migration.migrate.Given as goal

abbrev pub invariant-loop-place : goal.invariant-loop-place
invariant-loop-place g l =
    let S = g.D.Sectors.history in record {
      ready : IsReady S l.drive;
      failures : S.failures l.drive.disk ≡ S.failures l.initial.drive.disk;
      few : l.place ≤ 64;
      so_far : (s : Shop) → HasClosedTable (S.image l.initial.drive.disk) s l.initial.requests
          → HasNewTable (S.image l.drive.disk) s l.requests l.place
          × Changes S l.initial.drive.disk l.drive.disk l.place (λ i. IsShop i s);
      quiet : any_old l.initial.requests ≡ false → (l.drive ≡ l.initial.drive) × (l.requests ≡ l.initial.requests);
    }
