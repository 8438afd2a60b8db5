-- By the lemma.
use Rattle.shop_life.proofs.Later.{stay}
use Rattle.shop_life.proofs.laws.answered_stays.Goals as goal

pub returns : goal.returns
returns g c = λ s disk first later shop life more. stay g.D.Sectors.history s disk first later shop life more
