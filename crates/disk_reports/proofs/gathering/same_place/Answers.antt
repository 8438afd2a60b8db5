-- The sectors are those of the faults.
use Rattle.disk_reports.proofs.gathering.same_place.Goals as goal

pub returns : goal.returns
returns c = rw (c.place.ensures, c.place-2.ensures) at c.is_same.ensures
