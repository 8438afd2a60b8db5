-- Those of the entries so far that the fault concerns.
use Rattle.std.proofs.Common.{◌≤◌, length, take}
use Rattle.d64_image.specs.Memory.{disk_image}
use Rattle.disk_reports.specs.Outcomes.{AreConcerned}
use Rattle.disk_reports.proofs.concerned.keep_concerned.Given as goal

abbrev pub invariant-loop-slot : goal.invariant-loop-slot
invariant-loop-slot l = record {
  few : length l.files.items ≤ l.slot-index;
  those : AreConcerned (disk_image l.disk) l.fault (take l.slot-index l.slots) l.files.items;
}
