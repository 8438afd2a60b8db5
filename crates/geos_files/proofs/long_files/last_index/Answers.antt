-- The last sector is one of the image's.
use Rattle.std.proofs.Common.{arith, sym}
use Rattle.geos_files.proofs.Long.{one-inside}
use Rattle.geos_files.proofs.long_files.last_index.Goals as goal

pub bounds-image-number : goal.bounds-image-number
bounds-image-number c = omega (
  arith,
  one-inside c.args.image.now c.args.chain.now _ c.in-Some.field-0.now c.requires (sym c.in-Some.ensures.value),
)
