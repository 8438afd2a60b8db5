-- How many of the entries so far have the name.
use Rattle.std.proofs.Common.{◌≡◌, ◌≤◌, length, map, take}
use Rattle.disk_pictures.specs.Comparisons.{called}
use Rattle.disk_pictures.specs.Drawings.{file_in}
use Rattle.disk_pictures.proofs.comparison.counterparts.count_called.Given as goal

abbrev pub invariant-loop-file : goal.invariant-loop-file
invariant-loop-file l = record {
  so_far : l.count ≡ length (called l.name (map file_in (take l.file-index l.files)));
  few : l.count ≤ l.file-index;
}
