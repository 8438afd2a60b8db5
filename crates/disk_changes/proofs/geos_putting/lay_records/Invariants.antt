-- So far only these blocks have changed.
use Rattle.std.proofs.Common.{◌≤◌, ◌+◌, ◌*◌}
use Rattle.d64_image.specs.Memory.{disk_image}
use Rattle.file_changes.specs.PutWrites.{SameBeside}
use Rattle.disk_changes.proofs.geos_putting.lay_records.Given as goal

abbrev pub invariant-loop-number : goal.invariant-loop-number
invariant-loop-number l = record {
  beside : SameBeside (disk_image l.fn.disk) l.blocks (disk_image l.disk);
  few : l.next ≤ 2 + 255 * l.number;
}
