-- By the lemma.
use Rattle.shop_life.proofs.Teeth as teeth
use Rattle.shop_life.proofs.laws.a_refused_shop_is_seen.Goals as goal

pub returns : goal.returns
returns g c = λ s disk steps parts d e. teeth.refused g.D.Sectors.history s disk steps parts d e
