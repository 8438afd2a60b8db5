-- By the lemma.
use Rattle.shop_life.proofs.Worked.{lived}
use Rattle.shop_life.proofs.laws.a_worked_life.Goals as goal

pub returns : goal.returns
returns c = lived
