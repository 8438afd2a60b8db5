-- By the lemma.
use Rattle.shop_life.proofs.Teeth as teeth
use Rattle.shop_life.proofs.laws.lost_goods_are_seen.Goals as goal

pub returns : goal.returns
returns g c = λ s disk steps parts v new m told u. teeth.lost_goods g.D.Sectors.history s disk steps parts v new m told u
