-- The entries of the sectors so far.
use Rattle.std.proofs.Common.{take, ◌*◌, ◌≡◌, ◌≤◌}
use Rattle.arrayvec.specs.ArrayVec.{array_vec_len}
use Rattle.d64_image.specs.Memory.{disk_image}
use Rattle.disk_layout.specs.Directory.{used_slots}
use Rattle.file_rescues.proofs.rescue.slots.used_of.Given as goal

abbrev pub invariant-loop-place : goal.invariant-loop-place
invariant-loop-place l = record {
  items : l.entries.items ≡ used_slots (disk_image l.disk) (take l.place-index l.directory);
  room : array_vec_len l.entries ≤ 8 * l.place-index;
}
