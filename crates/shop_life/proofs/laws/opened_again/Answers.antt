-- By the lemma.
use Rattle.shop_life.proofs.Teeth as teeth
use Rattle.shop_life.proofs.laws.opened_again.Goals as goal

pub returns : goal.returns
returns g c = λ d v r first second. teeth.opened_again g.D.Sectors.history d v r first second
