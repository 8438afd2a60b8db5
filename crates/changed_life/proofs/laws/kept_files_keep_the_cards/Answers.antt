-- By the lemma.
use Rattle.changed_life.proofs.Shops.{kept-shop}
use Rattle.changed_life.proofs.laws.kept_files_keep_the_cards.Goals as goal

pub returns : goal.returns
returns c = kept-shop
