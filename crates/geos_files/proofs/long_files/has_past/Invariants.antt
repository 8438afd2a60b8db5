-- The sectors so far are on tracks 1 to 35.
use Rattle.std.proofs.Common.{◌≡◌, drop}
use Rattle.std.specs.List.{list_any}
use Rattle.geos_files.specs.Long.{is_past}
use Rattle.geos_files.proofs.long_files.has_past.Given as goal

abbrev pub invariant-loop-number : goal.invariant-loop-number
invariant-loop-number l = record {
  rest : list_any is_past l.sectors ≡ list_any is_past (drop l.number-index l.sectors);
}
