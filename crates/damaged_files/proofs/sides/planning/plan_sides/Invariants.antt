use Rattle.std.proofs.Common.{◌≡◌}
use Rattle.d64_image.specs.Memory.{disk_image}
use Rattle.damaged_files.proofs.sides.planning.plan_sides.Given as goal

abbrev pub invariant-loop-slot : goal.invariant-loop-slot
invariant-loop-slot l = disk_image l.before ≡ disk_image l.fn.before
