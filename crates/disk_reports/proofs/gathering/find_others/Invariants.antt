-- Those of the sectors so far were found.
use Rattle.std.proofs.Common.{[], take}
use Rattle.std.specs.Prelude.{flat_map}
use Rattle.d64_image.specs.Places.{places}
use Rattle.disk_reports.specs.AllFaults.{IsGathered, faults_at}
use Rattle.disk_reports.proofs.gathering.find_others.Given as goal

abbrev pub invariant-loop-index : goal.invariant-loop-index
invariant-loop-index l = IsGathered l.links l.first (flat_map faults_at (take l.index places)) [] l.found.items
