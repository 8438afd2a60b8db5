use Rattle.std.proofs.Common.{◌≡◌}
use Rattle.d64_image.specs.Memory.{disk_image}
use Rattle.damaged_files.proofs.sides.planning.add_files.Given as goal

abbrev pub invariant-loop-slot : goal.invariant-loop-slot
invariant-loop-slot l = disk_image l.disk ≡ disk_image l.fn.disk
