-- The circle of the sector.
use Rattle.std.proofs.Common.{refl}
use Rattle.std.proofs.Output.{has_written_of_eq}
use Rattle.disk_pictures.specs.ComparedPages.{mark_arc}
use Rattle.disk_pictures.proofs.comparison.differences.MarkDisplay.fmt.Goals as goal

pub returns-clause-writes : goal.returns-clause-writes
unfolding mark_arc
returns-clause-writes g c = λ plain done. has_written_of_eq _ _ _ _ _
    (rw (c.of.ensures.radius, c.of.ensures.place) refl) (c.writeln.ensures.writes plain done)
