-- By the lemma.
use Rattle.shop_life.proofs.Rest.{rest_stays}
use Rattle.shop_life.proofs.laws.the_rest_stays.Goals as goal

pub returns : goal.returns
returns g c = λ s disk steps shop life. rest_stays g.D.Sectors.history s disk steps shop life
