-- More than two aren't told apart, and no more are asked.
use Rattle.file_rescues.proofs.lemmas.rescue.PastShared.{least-same}
use Rattle.file_rescues.proofs.rescue.past_sharing.is_so_often.Goals as goal

pub returns : goal.returns
returns c = least-same c.args.least c.count_of.result _ c.requires c.count_of.ensures
