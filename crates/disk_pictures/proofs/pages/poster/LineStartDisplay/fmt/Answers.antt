-- Where it stands, and the entry's colour and shape.
use Rattle.std.proofs.Common.{refl}
use Rattle.std.proofs.Output.{has_written_of_eq}
use Rattle.disk_pictures.specs.Posters.{line_start}
use Rattle.disk_pictures.proofs.pages.poster.LineStartDisplay.fmt.Goals as goal

pub returns-clause-writes : goal.returns-clause-writes
unfolding line_start
returns-clause-writes g c = λ plain done. has_written_of_eq _ _ _ _ _
    (rw (c.left.ensures, c.top.ensures, c.size-width.ensures.width, c.size-width.ensures.height) refl)
    (c.write.ensures.writes plain done)
