-- How often the sector is among those of the entries so far.
use Rattle.std.proofs.Common.{◌≡◌, ◌≤◌, ◌*◌, take}
use Rattle.std.specs.Prelude.{flat_map}
use Rattle.disk_reports.specs.AllFaults.{sectors_of, times}
use Rattle.disk_reports.proofs.counting.count_in_all.Given as goal

abbrev pub invariant-loop-trail : goal.invariant-loop-trail
invariant-loop-trail l = record {
  count : l.count ≡ times l.place (flat_map sectors_of (take l.trail-index l.trails));
  few : l.count ≤ 726 * l.trail-index;
}
