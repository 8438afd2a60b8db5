-- The slots so far.
use Rattle.std.proofs.Common.{take, ◌+◌, ◌++◌, ◌≡◌, ◌≤◌}
use Rattle.arrayvec.specs.ArrayVec.{array_vec_len}
use Rattle.disk_layout.specs.Directory.{slots_in}
use Rattle.disk_changes.proofs.sorting.add_slots.Given as goal

abbrev pub invariant-loop-number : goal.invariant-loop-number
invariant-loop-number l = record {
  items : l.slots.items ≡ l.fn.slots.items ++ take l.number (slots_in l.place l.bytes);
  room : array_vec_len l.slots ≤ array_vec_len l.fn.slots + l.number;
}
