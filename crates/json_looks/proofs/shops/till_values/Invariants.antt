-- The objects of the tills so far.
use Rattle.std.proofs.Common.{◌≡◌, map}
use Rattle.host_session.specs.shop.Shop.{IsShop, Shop}
use Rattle.json_looks.specs.Shops.{till_items}
use Rattle.serde_json.specs.View.{view}
use Rattle.json_looks.proofs.shops.till_values.Given as goal

abbrev pub invariant-loop-before : goal.invariant-loop-before
invariant-loop-before g l =
    (s : Shop) → IsShop (g.D.Sectors.history.image l.session.disk) s
    → map view l.values.items ≡ till_items s.state l.before
