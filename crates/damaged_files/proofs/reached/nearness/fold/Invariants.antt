-- The bytes so far, without their case.
use Rattle.std.proofs.Common.{◌≡◌, ◌≤◌, length, map, take}
use Rattle.damaged_files.specs.reached.Nearness.{folded_byte}
use Rattle.damaged_files.proofs.reached.nearness.fold.Given as goal

abbrev pub invariant-loop-byte : goal.invariant-loop-byte
invariant-loop-byte l = record {
  items : l.bytes.items ≡ map folded_byte (take l.byte-index l.name);
  few : length l.bytes.items ≤ l.byte-index;
}
