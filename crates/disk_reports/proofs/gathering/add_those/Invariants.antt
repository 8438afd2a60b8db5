-- Those of the faults so far that hold too were appended.
use Rattle.std.proofs.Common.{take}
use Rattle.disk_reports.specs.AllFaults.{IsGathered}
use Rattle.disk_reports.proofs.gathering.add_those.Given as goal

abbrev pub invariant-loop-fault : goal.invariant-loop-fault
invariant-loop-fault l =
    IsGathered l.links l.first (take l.fault-index l.candidates) l.fn.found.items l.found.items
