-- A till's last two requests stand on one card.
use Rattle.host_session.proofs.laws.last_two.Goals as goal
use Rattle.host_session.proofs.lemmas.shop.Shops.{keeps-last_two}

pub returns : goal.returns
returns c = keeps-last_two
