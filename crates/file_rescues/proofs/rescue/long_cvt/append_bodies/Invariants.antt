-- The bytes of the sectors so far.
use Rattle.std.proofs.Common.{◌≡◌, ◌≤◌, ◌+◌, ◌*◌, ◌++◌, length, take}
use Rattle.std.specs.Prelude.{flat_map}
use Rattle.file_rescues.specs.rescue.LongCvt.{body_in}
use Rattle.file_rescues.proofs.rescue.long_cvt.append_bodies.Given as goal

abbrev pub invariant-loop-number : goal.invariant-loop-number
invariant-loop-number l = record {
  bytes : l.bytes.items ≡ l.fn.bytes.items ++ flat_map (body_in l.image) (take l.number-index l.numbers);
  short : length l.bytes.items ≤ length l.fn.bytes.items + 254 * l.number-index;
}
