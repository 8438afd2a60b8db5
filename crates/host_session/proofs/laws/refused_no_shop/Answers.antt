-- Each fault denies what a shop has.
use Rattle.host_session.proofs.laws.refused_no_shop.Goals as goal
use Rattle.host_session.proofs.lemmas.judging.Judging.{refused-no_shop}

pub returns : goal.returns
returns c = refused-no_shop
