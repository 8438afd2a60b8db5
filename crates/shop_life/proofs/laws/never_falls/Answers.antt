-- By the lemma.
use Rattle.shop_life.proofs.Teeth as teeth
use Rattle.shop_life.proofs.laws.never_falls.Goals as goal

pub returns : goal.returns
returns g c = λ s t disk first later shop life more is. teeth.never_falls g.D.Sectors.history s t disk first later shop life more is
