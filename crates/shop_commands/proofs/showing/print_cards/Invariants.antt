-- The cards of the items so far were printed.
use Rattle.std.proofs.Common.{◌*◌}
use Rattle.std.specs.Io.KnownBytes.{Appends}
use Rattle.host_session.specs.shop.Shop.{IsShop, Shop}
use Rattle.shop_commands.specs.Shows.{cards_to}
use Rattle.shop_commands.proofs.showing.print_cards.Given as goal

abbrev pub invariant-loop-time : goal.invariant-loop-time
invariant-loop-time g l =
    (s : Shop) → IsShop (g.D.Sectors.history.image l.session.disk) s
    → Appends (g.W.Write.contents l.fn.out) (g.W.Write.contents l.out) (cards_to s.state (80 * l.time))
