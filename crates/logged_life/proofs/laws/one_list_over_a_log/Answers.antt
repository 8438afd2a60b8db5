-- By the lemma.
use Rattle.logged_life.proofs.Served.{has_one_list}
use Rattle.logged_life.proofs.laws.one_list_over_a_log.Goals as goal

pub returns : goal.returns
returns g c = λ s image services life shop.
    has_one_list g.L.ImageLog.history g.R.BatchSource.input g.T.BatchReplies.output s image services life shop
