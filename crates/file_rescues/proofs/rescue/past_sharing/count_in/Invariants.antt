-- Those so far.
use Rattle.std.proofs.Common.{◌≡◌, ◌+◌, length, min, take}
use Rattle.std.specs.Prelude.{filter, nat_eq}
use Rattle.file_rescues.proofs.rescue.past_sharing.count_in.Given as goal

abbrev pub invariant-loop-other : goal.invariant-loop-other
invariant-loop-other l = record {
  count : l.count ≡ min 2 (l.before + length (filter (nat_eq l.fn.number) (take l.other-index l.sectors)));
}
