-- By the lemma.
use Rattle.shop_life.proofs.Rest.{files_stay}
use Rattle.shop_life.proofs.laws.files_stay_whole.Goals as goal

pub returns : goal.returns
returns g c = λ s disk steps shop w life. files_stay g.D.Sectors.history s disk steps shop w life
