-- By the lemma.
use Rattle.changed_life.proofs.Changed.{repair-stays}
use Rattle.changed_life.proofs.laws.a_repair_leaves_the_same_shop.Goals as goal

pub returns : goal.returns
returns c = repair-stays
