-- By the lemma.
use Rattle.shop_life.proofs.Teeth as teeth
use Rattle.shop_life.proofs.laws.a_changed_file_is_seen.Goals as goal

pub returns : goal.returns
returns g c = λ s disk steps parts p x c u. teeth.changed_file g.D.Sectors.history s disk steps parts p x c u
