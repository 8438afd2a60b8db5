-- The objects of the cards so far.
use Rattle.std.proofs.Common.{◌≡◌, map}
use Rattle.host_session.specs.shop.Shop.{IsShop, Shop}
use Rattle.json_looks.specs.Shops.{card_items}
use Rattle.serde_json.specs.View.{view}
use Rattle.json_looks.proofs.shops.card_values.Given as goal

abbrev pub invariant-loop-before : goal.invariant-loop-before
invariant-loop-before g l =
    (s : Shop) → IsShop (g.D.Sectors.history.image l.session.disk) s
    → map view l.values.items ≡ card_items s.state l.before
