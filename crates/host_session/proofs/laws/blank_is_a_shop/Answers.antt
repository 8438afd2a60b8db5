-- The law is a lemma.
use Rattle.host_session.proofs.laws.blank_is_a_shop.Goals as goal
use Rattle.host_session.proofs.lemmas.shop.BlankShops.{blank-shop}

pub returns : goal.returns
returns c = blank-shop
