-- By the lemma.
use Rattle.shop_life.proofs.Chapters.{all_chapters}
use Rattle.shop_life.proofs.laws.chapters_have_lists.Goals as goal

pub returns : goal.returns
returns g c = λ s disk chapters shop are. all_chapters g.D.Sectors.history s disk chapters shop are
