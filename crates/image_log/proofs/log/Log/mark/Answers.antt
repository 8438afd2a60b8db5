-- The byte behind the blocks is written, and synced.
use Rattle.image_log.proofs.Ends.{marks, mark_moments}
use Rattle.image_log.proofs.log.Log.mark.Goals as goal

pub returns-clause-marked : goal.returns-clause-marked
returns-clause-marked g c = marks c.args.self.now c.append.new.file c.append.result c.append.ensures.brings

pub returns-clause-any_moment : goal.returns-clause-any_moment
returns-clause-any_moment g c start now s = mark_moments c.args.self.now c.append.new.file c.append.result c.append.ensures.brings start now s
