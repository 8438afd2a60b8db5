-- The entries so far were drawn.
use Rattle.std.proofs.Common.{◌≡◌, length, map, take}
use Rattle.d64_image.specs.Memory.{disk_image}
use Rattle.disk_pictures.specs.Drawings.{AreDrawn, file_in}
use Rattle.disk_pictures.proofs.reading.draw_files.Given as goal

abbrev pub invariant-loop-slot : goal.invariant-loop-slot
invariant-loop-slot l = record {
  drawn : AreDrawn (disk_image l.disk) (take l.slot-index l.slots) (map file_in l.files.items);
  count : length l.files.items ≡ l.slot-index;
}
