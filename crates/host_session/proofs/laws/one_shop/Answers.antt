-- An image has one layout, which has one first file of each name, one top and one rest.
use Rattle.host_session.proofs.laws.one_shop.Goals as goal
use Rattle.host_session.proofs.lemmas.shop.Shops.{IsShop-one}

pub returns : goal.returns
returns c = IsShop-one
