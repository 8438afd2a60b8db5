-- By the lemma.
use Rattle.changed_life.proofs.Changed.{chapter}
use Rattle.changed_life.proofs.laws.a_change_begins_a_chapter.Goals as goal

pub returns : goal.returns
returns g c = λ s disk last next steps what image made. chapter g.D.Sectors.history s disk last next steps what image made
