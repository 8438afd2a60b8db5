-- The deleted entries of the sectors so far.
use Rattle.std.proofs.Common.{take, ◌*◌, ◌≡◌, ◌≤◌}
use Rattle.arrayvec.specs.ArrayVec.{array_vec_len}
use Rattle.d64_image.specs.Memory.{disk_image}
use Rattle.file_rescues.specs.rescue.Deleted.{deleted_slots}
use Rattle.file_rescues.proofs.rescue.deleted.deleted_of.Given as goal

abbrev pub invariant-loop-place : goal.invariant-loop-place
invariant-loop-place l = record {
  items : l.entries.items ≡ deleted_slots (disk_image l.disk) (take l.place-index l.directory);
  room : array_vec_len l.entries ≤ 8 * l.place-index;
}
