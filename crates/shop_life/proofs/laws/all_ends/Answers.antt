-- By the lemma.
use Rattle.shop_life.proofs.Tills.{ends_hold_over}
use Rattle.shop_life.proofs.laws.all_ends.Goals as goal

pub returns : goal.returns
returns g c = λ s disk happenings shop fit. ends_hold_over g.D.Sectors.history s disk happenings shop fit
