-- The bytes of the sectors so far.
use Rattle.std.proofs.Common.{◌≡◌, ◌≤◌, ◌*◌, length, take}
use Rattle.long_chains.specs.Chains.{data_of}
use Rattle.file_rescues.proofs.long_files.read_long.Given as goal

abbrev pub invariant-loop-number : goal.invariant-loop-number
invariant-loop-number l = record {
  bytes : l.bytes.items ≡ data_of l.image (take l.number-index l.chain);
  short : length l.bytes.items ≤ 254 * l.number-index;
}
