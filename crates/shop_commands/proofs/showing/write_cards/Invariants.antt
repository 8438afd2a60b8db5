-- The lines of the last items so far stand at the room's end.
use Rattle.std.proofs.Common.{◌≡◌, ◌≤◌, ◌+◌, ◌*◌, ◌-◌, ◌++◌, drop, length}
use Rattle.host_session.specs.shop.Shop.{IsShop, Shop}
use Rattle.shop_commands.specs.Shows.{cards_to}
use Rattle.shop_commands.proofs.showing.write_cards.Given as goal

abbrev pub invariant-loop-written : goal.invariant-loop-written
invariant-loop-written g l = record {
  low : 1920 ≤ l.start + 24 * l.written;
  high : l.start ≤ 1920;
  long : length l.room ≡ 1920;
  so_far : (s : Shop) → IsShop (g.D.Sectors.history.image l.session.disk) s
      → cards_to s.state (l.before + 80 - l.written) ++ drop l.start l.room ≡ cards_to s.state (l.before + 80);
}
