-- The colour's number, and the width's.
use Rattle.std.proofs.Common.{refl}
use Rattle.std.proofs.Output.{has_written_of_eq}
use Rattle.disk_pictures.specs.Pictures.{look}
use Rattle.disk_pictures.proofs.pages.arcs.LookDisplay.fmt.Goals as goal

pub returns-clause-writes : goal.returns-clause-writes
unfolding look
returns-clause-writes g c = λ plain done. has_written_of_eq _ _ _ _ _ refl (c.write.ensures.writes plain done)
