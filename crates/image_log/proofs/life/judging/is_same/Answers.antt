-- The comparison of lists decides.
use Rattle.std.proofs.lemmas.Slice.Eq.{bytes_eq-Decides, slice_eq-Decides}
use Rattle.image_log.proofs.life.judging.is_same.Goals as goal

pub returns : goal.returns
returns c = slice_eq-Decides bytes_eq-Decides c.args.one.now c.args.other.now c.eq.result c.eq.ensures
