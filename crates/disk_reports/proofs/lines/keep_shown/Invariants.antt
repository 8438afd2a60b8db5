-- Those of the entries so far that show the fault.
use Rattle.std.proofs.Common.{◌≤◌, length, take}
use Rattle.disk_reports.specs.AllFaults.{AreShown}
use Rattle.disk_reports.proofs.lines.keep_shown.Given as goal

abbrev pub invariant-loop-trail : goal.invariant-loop-trail
invariant-loop-trail l = record {
  few : length l.files.items ≤ l.trail-index;
  those : AreShown (take l.trail-index l.trails) l.fault l.files.items;
}
