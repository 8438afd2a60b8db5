-- The records so far.
use Rattle.std.proofs.Common.{◌≡◌, ◌≤◌, ◌*◌, Some, length}
use Rattle.std.specs.List.{AllByRecursion}
use Rattle.long_chains.specs.Sectors.{HasSector}
use Rattle.geos_files.specs.Long.{records_to}
use Rattle.geos_files.proofs.long_files.add_records.Given as goal

abbrev pub invariant-loop-number : goal.invariant-loop-number
invariant-loop-number l = record {
  so_far : Some (l.sectors.items, l.pairs.items) ≡ records_to l.image l.block l.fn.sectors.items l.number;
  inside : AllByRecursion (HasSector l.image) l.sectors.items;
  few : length l.sectors.items ≤ 800;
  pairs : length l.pairs.items ≤ 2 * l.number;
}
