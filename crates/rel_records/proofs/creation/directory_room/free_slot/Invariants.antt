use Rattle.std.proofs.Common.{◌≢◌, ◌<◌, ◌+◌, ◌*◌, ℕ, slice_index}
use Rattle.rel_records.proofs.creation.directory_room.free_slot.Given as goal

abbrev pub invariant-loop-number : goal.invariant-loop-number
invariant-loop-number l = record {
  used : (k : ℕ) → k < l.number → slice_index l.bytes (32 * k + 2) ≢ 0;
}
