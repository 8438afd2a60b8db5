-- What was found of the deleted entries so far.
use Rattle.std.proofs.Common.{◌≡◌, ◌++◌, List, take}
use Rattle.d64_image.specs.Memory.{disk_image}
use Rattle.file_rescues.specs.rescue.Rescues.{AreUndeleted}
use Rattle.file_rescues.specs.declared.rescue.rescuing.Rescued.{Rescued}
use Rattle.file_rescues.proofs.rescue.deleted.add_undeleted.Given as goal

abbrev pub invariant-loop-slot : goal.invariant-loop-slot
invariant-loop-slot l = (found : List Rescued) × (l.files.items ≡ l.fn.files.items ++ found)
    × AreUndeleted l.image (disk_image l.disk) l.directory l.fn.files.items (take l.slot-index l.slots) found
