-- The blocks of the entries so far were counted.
use Rattle.d64_image.specs.Memory.{disk_image}
use Rattle.damaged_files.proofs.lemmas.reached.EntryBlocks.{Counted}
use Rattle.damaged_files.proofs.reached.owning.owners_of.Given as goal

abbrev pub invariant-loop-slot : goal.invariant-loop-slot
invariant-loop-slot l = Counted (disk_image l.disk) l.directory l.slots l.slot-index l.owners
