-- How often the sector is among those so far.
use Rattle.std.proofs.Common.{◌≡◌, ◌≤◌, take}
use Rattle.disk_reports.specs.AllFaults.{times}
use Rattle.disk_reports.proofs.counting.count_of.Given as goal

abbrev pub invariant-loop-at : goal.invariant-loop-at
invariant-loop-at l = record {
  count : l.count ≡ times l.place (take l.at-index l.places);
  few : l.count ≤ l.at-index;
}
