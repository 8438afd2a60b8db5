use Rattle.std.proofs.Common.{◌≡◌, ◌≤◌, ◌+◌}
use Rattle.d64_image.specs.Images.{Image}
use Rattle.image_log.specs.Blocks.{brought, with_sectors}
use Rattle.image_log.proofs.filling.set_sectors.Given as goal

abbrev pub invariant-loop-i : goal.invariant-loop-i
invariant-loop-i l = record {
  few : l.n ≤ 15;
  taken : l.from + l.n ≤ l.i;
  brought : (image : Image) → with_sectors l.block l.n (brought l.touched l.now l.from image) ≡ brought l.touched l.now l.i image;
}
