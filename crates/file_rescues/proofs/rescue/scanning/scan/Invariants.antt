-- The sectors of the track so far.
use Rattle.std.proofs.Common.{◌≡◌}
use Rattle.d64_image.specs.Memory.{disk_image}
use Rattle.file_rescues.specs.rescue.Scanned.{with_scanned}
use Rattle.file_rescues.proofs.lemmas.rescue.Scanned.{IsSound}
use Rattle.file_rescues.proofs.rescue.scanning.scan.Given as goal

abbrev pub invariant-loop-before : goal.invariant-loop-before
invariant-loop-before l = record {
  items : l.sectors.items ≡ with_scanned (disk_image l.disk) l.fn.sectors.items l.before;
  sound : IsSound l.sectors.items;
}
