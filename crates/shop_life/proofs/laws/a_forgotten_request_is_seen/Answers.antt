-- By the lemma.
use Rattle.shop_life.proofs.Teeth as teeth
use Rattle.shop_life.proofs.laws.a_forgotten_request_is_seen.Goals as goal

pub returns : goal.returns
returns g c = λ s disk steps parts d v u. teeth.forgot g.D.Sectors.history s disk steps parts d v u
