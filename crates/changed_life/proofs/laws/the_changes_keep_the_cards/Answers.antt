-- By the lemma.
use Rattle.changed_life.proofs.Changed.{changes-keep}
use Rattle.changed_life.proofs.laws.the_changes_keep_the_cards.Goals as goal

pub returns : goal.returns
returns c = changes-keep
