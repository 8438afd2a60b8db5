-- The number, and the colour.
use Rattle.std.proofs.Common.{refl}
use Rattle.std.proofs.Output.{has_written_of_eq}
use Rattle.disk_pictures.specs.Pictures.{group_head}
use Rattle.disk_pictures.proofs.pages.picture_printing.GroupHeadDisplay.fmt.Goals as goal

pub returns-clause-writes : goal.returns-clause-writes
unfolding group_head
returns-clause-writes g c = λ plain done. has_written_of_eq _ _ _ _ _ refl (c.writeln.ensures.writes plain done)
