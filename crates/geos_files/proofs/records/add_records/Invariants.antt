-- What the records so far have.
use Rattle.std.proofs.Common.{◌≡◌, ◌*◌}
use Rattle.arrayvec.specs.ArrayVec.{array_vec_len}
use Rattle.d64_image.specs.Images.{sector}
use Rattle.d64_image.specs.Memory.{disk_image}
use Rattle.geos_files.specs.Marked.{IsMarked}
use Rattle.geos_files.specs.Reached.{AreRecords}
use Rattle.geos_files.proofs.records.add_records.Given as goal

abbrev pub invariant-loop-number : goal.invariant-loop-number
invariant-loop-number l = record {
  records : AreRecords (disk_image l.disk) l.fn.at (sector (disk_image l.disk) l.fn.at) l.number l.fn.blocks.items
      l.blocks.items l.pairs.items l.fault l.last;
  marked : IsMarked l.visited l.blocks.items;
  pairs : array_vec_len l.pairs ≡ 2 * l.number;
}
