-- By the lemma.
use Rattle.shop_life.proofs.Seen.{has_one_list}
use Rattle.shop_life.proofs.laws.one_list.Goals as goal

pub returns : goal.returns
returns g c = λ s disk steps shop life. has_one_list g.D.Sectors.history s disk steps shop life
