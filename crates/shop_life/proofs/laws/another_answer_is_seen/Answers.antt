-- By the lemma.
use Rattle.shop_life.proofs.Teeth as teeth
use Rattle.shop_life.proofs.laws.another_answer_is_seen.Goals as goal

pub returns : goal.returns
returns g c = λ s disk steps parts v new m told a first later. teeth.other_answer g.D.Sectors.history s disk steps parts v new m told a first later
