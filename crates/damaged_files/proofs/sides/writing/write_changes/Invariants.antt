use Rattle.std.proofs.Common.{◌<◌}
use Rattle.d64_image.specs.Memory.{disk_image}
use Rattle.d64_image.specs.Places.{index_of}
use Rattle.damaged_files.specs.sides.Taken.{TakesSoFar}
use Rattle.damaged_files.proofs.sides.writing.write_changes.Given as goal

abbrev pub invariant-loop-index : goal.invariant-loop-index
invariant-loop-index g l = TakesSoFar g.D.Sectors.history (disk_image l.before) (disk_image l.after)
    (λ p. index_of p < l.index) l.fn.disk l.disk
