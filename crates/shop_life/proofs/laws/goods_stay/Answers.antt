-- By the lemma.
use Rattle.shop_life.proofs.Teeth as teeth
use Rattle.shop_life.proofs.laws.goods_stay.Goals as goal

pub returns : goal.returns
returns g c = λ s t disk steps shop life is. teeth.goods_over g.D.Sectors.history s t disk steps shop life is
