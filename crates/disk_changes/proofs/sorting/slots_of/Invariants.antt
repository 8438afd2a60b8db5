-- The slots of the sectors so far.
use Rattle.std.proofs.Common.{take, ◌*◌, ◌≡◌, ◌≤◌}
use Rattle.arrayvec.specs.ArrayVec.{array_vec_len}
use Rattle.d64_image.specs.Memory.{disk_image}
use Rattle.disk_changes.specs.Sorts.{all_slots}
use Rattle.disk_changes.proofs.sorting.slots_of.Given as goal

abbrev pub invariant-loop-place : goal.invariant-loop-place
invariant-loop-place l = record {
  items : l.slots.items ≡ all_slots (disk_image l.disk) (take l.place-index l.directory);
  room : array_vec_len l.slots ≤ 8 * l.place-index;
}
