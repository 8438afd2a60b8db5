-- What the links of the entries so far come to.
use Rattle.std.proofs.Common.{◌≡◌, length, take}
use Rattle.d64_image.specs.Memory.{disk_image}
use Rattle.disk_reports.specs.AllFaults.{AreFollowed}
use Rattle.disk_reports.proofs.links.follow_entries.Given as goal

abbrev pub invariant-loop-slot : goal.invariant-loop-slot
invariant-loop-slot l = record {
  followed : AreFollowed (disk_image l.disk) (take l.slot-index l.slots) l.trails.items;
  count : length l.trails.items ≡ l.slot-index;
}
