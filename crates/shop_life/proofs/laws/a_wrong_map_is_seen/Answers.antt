-- By the lemma.
use Rattle.shop_life.proofs.Teeth as teeth
use Rattle.shop_life.proofs.laws.a_wrong_map_is_seen.Goals as goal

pub returns : goal.returns
returns g c = λ s disk steps parts v. teeth.wrong_map g.D.Sectors.history s disk steps parts v
