-- What can be reached of the entries so far.
use Rattle.std.proofs.Common.{◌≡◌, length, take}
use Rattle.d64_image.specs.Memory.{disk_image}
use Rattle.file_rescues.specs.rescue.Rescues.{AreRescued}
use Rattle.file_rescues.proofs.rescue.rescuing.rescue_all.Given as goal

abbrev pub invariant-loop-slot : goal.invariant-loop-slot
invariant-loop-slot l = record {
  rescued : AreRescued l.image (disk_image l.disk) (take l.slot-index l.slots) l.files.items;
  count : length l.files.items ≡ l.slot-index;
}
