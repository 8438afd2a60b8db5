use Rattle.image_log.proofs.Touches.{none_marked}
use Rattle.image_log.proofs.touched_disk.TouchedDisk.clear.Goals as goal

pub returns-clause-none : goal.returns-clause-none
returns-clause-none g c i = none_marked 683 i
