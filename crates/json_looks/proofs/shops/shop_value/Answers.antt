-- The object is that of the session's shop.
use Rattle.json_looks.proofs.Openings.{shop-shown}
use Rattle.json_looks.proofs.shops.shop_value.Goals as goal

pub returns : goal.returns
returns g c = λ s is.
    shop-shown c.args.name.now _ _ _ s c.shop_of.result (c.top.ensures s is) (c.in_ok-cards.ensures s is)
    (c.in_ok-tills.ensures s is) c.shop_of.ensures
