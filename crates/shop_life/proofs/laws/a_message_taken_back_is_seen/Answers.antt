-- By the lemma.
use Rattle.shop_life.proofs.Teeth as teeth
use Rattle.shop_life.proofs.laws.a_message_taken_back_is_seen.Goals as goal

pub returns : goal.returns
returns g c = λ s disk steps parts v new m told x. teeth.taken_back g.D.Sectors.history s disk steps parts v new m told x
