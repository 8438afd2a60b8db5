-- The requests of the tills so far were printed.
use Rattle.std.specs.Prelude.{option_map}
use Rattle.std.specs.Io.KnownBytes.{Appends}
use Rattle.host_session.specs.shop.Shop.{IsShop, Shop}
use Rattle.request_cards.specs.Tables.{told_of}
use Rattle.shop_commands.specs.Shows.{till_part, up_to}
use Rattle.shop_commands.proofs.showing.print_tills.Given as goal

abbrev pub invariant-loop-before : goal.invariant-loop-before
invariant-loop-before g l =
    (s : Shop) → IsShop (g.D.Sectors.history.image l.session.disk) s
    → Appends (g.W.Write.contents l.fn.out) (g.W.Write.contents l.out)
    (up_to l.before (λ till. till_part (option_map (told_of till) (s.state.ledger.kept till))
    (option_map (told_of till) (s.state.prior till))))
