-- The sectors so far aren't shared.
use Rattle.std.proofs.Common.{◌≡◌, drop}
use Rattle.file_rescues.specs.rescue.Sharing.{first_among}
use Rattle.file_rescues.proofs.rescue.past_sharing.first_among.Given as goal

abbrev pub invariant-loop-number : goal.invariant-loop-number
invariant-loop-number l = record {
  rest : first_among l.shared l.sectors ≡ first_among l.shared (drop l.number-index l.sectors);
}
