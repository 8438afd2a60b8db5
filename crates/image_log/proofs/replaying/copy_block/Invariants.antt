use Rattle.std.proofs.Common.{◌≡◌}
use Rattle.image_log.specs.Blocks.{with_sectors}
use Rattle.image_log.proofs.replaying.copy_block.Given as goal

abbrev pub invariant-loop-k : goal.invariant-loop-k
invariant-loop-k l = l.image ≡ with_sectors l.block l.k l.initial.image
