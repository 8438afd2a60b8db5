-- The parts that were printed are all that is shown of the shop.
use Rattle.d64_image.proofs.Told.{at-ok}
use Rattle.shop_commands.proofs.Showings.{shop-shown}
use Rattle.shop_commands.proofs.showing.print_shop.Goals as goal

pub returns-clause-ok : goal.returns-clause-ok
returns-clause-ok g c = λ s is. at-ok c.flush.result
    (shop-shown _ _ _ _ _ s.top s.state
    (rw (← c.top.ensures s is) c.in_ok-print_top.ensures.ok) (c.in_ok-print_cards.ensures.ok s is)
    (c.in_ok-print_tills.ensures.ok s is) c.flush.ensures.kept)
