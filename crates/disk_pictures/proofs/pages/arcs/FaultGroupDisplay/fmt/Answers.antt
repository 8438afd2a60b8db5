-- The two circles, and the mark at the rim.
use Rattle.std.proofs.Common.{refl}
use Rattle.std.proofs.Output.{has_written_of_eq}
use Rattle.disk_pictures.specs.Pictures.{fault_sector}
use Rattle.disk_pictures.proofs.pages.arcs.FaultGroupDisplay.fmt.Goals as goal

pub returns-clause-writes : goal.returns-clause-writes
unfolding fault_sector
returns-clause-writes g c = λ plain done. has_written_of_eq _ _ _ _ _
    (rw (c.of-ring.ensures.radius, c.of-ring.ensures.place, c.place-place.ensures) refl)
    (c.writeln.ensures.writes plain done)
