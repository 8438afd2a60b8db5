-- By the lemma.
use Rattle.shop_life.proofs.Teeth as teeth
use Rattle.shop_life.proofs.laws.an_unstored_answer_is_seen.Goals as goal

pub returns : goal.returns
returns g c = λ s disk steps parts v new m told u. teeth.unstored g.D.Sectors.history s disk steps parts v new m told u
