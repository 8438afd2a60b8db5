-- Those of the entries so far that are near.
use Rattle.std.proofs.Common.{◌≡◌, ◌≤◌, length, take}
use Rattle.std.specs.Prelude.{filter}
use Rattle.damaged_files.specs.reached.Nearness.{is_near}
use Rattle.damaged_files.proofs.reached.nearness.near_entries.Given as goal

abbrev pub invariant-loop-slot : goal.invariant-loop-slot
invariant-loop-slot l = record {
  those : l.files.items ≡ filter (is_near l.name) (take l.slot-index l.entries);
  few : length l.files.items ≤ l.slot-index;
}
