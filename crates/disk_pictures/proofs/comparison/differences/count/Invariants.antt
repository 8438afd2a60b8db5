-- How many of the sectors so far differ.
use Rattle.std.proofs.Common.{◌≡◌, ◌≤◌, length, take}
use Rattle.std.specs.Prelude.{flat_map}
use Rattle.d64_image.specs.Places.{places}
use Rattle.disk_pictures.proofs.InOrder.{differing}
use Rattle.disk_pictures.specs.Comparisons.{number_of}
use Rattle.disk_pictures.proofs.comparison.differences.count.Given as goal

abbrev pub invariant-loop-index : goal.invariant-loop-index
invariant-loop-index l = record {
  so_far : l.count ≡ length (flat_map (differing number_of l.before.sectors.now l.after.sectors.now) (take l.index places));
  few : l.count ≤ l.index;
}
