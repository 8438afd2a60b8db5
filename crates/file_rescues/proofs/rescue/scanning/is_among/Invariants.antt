-- The sectors so far are others.
use Rattle.std.proofs.Common.{◌≡◌, drop}
use Rattle.file_rescues.specs.rescue.Scanned.{is_among}
use Rattle.file_rescues.proofs.rescue.scanning.is_among.Given as goal

abbrev pub invariant-loop-other : goal.invariant-loop-other
invariant-loop-other l = record {
  rest : is_among l.place l.sectors ≡ is_among l.place (drop l.other-index l.sectors);
}
