-- The sector's bytes lie in the image.
use Rattle.std.proofs.Common.{arith}
use Rattle.long_chains.proofs.Sizes.{inside}
use Rattle.file_rescues.proofs.rescue.long_cvt.body_in.Goals as goal

pub overflow_mul-result : goal.overflow_mul-result
overflow_mul-result c = omega (arith, inside c.args.image.now c.args.number c.requires)

pub overflow_add-result : goal.overflow_add-result
overflow_add-result c = omega (arith, inside c.args.image.now c.args.number c.requires)

pub overflow_mul-result-2 : goal.overflow_mul-result-2
overflow_mul-result-2 c = omega (arith, inside c.args.image.now c.args.number c.requires)

pub overflow_add-result-2 : goal.overflow_add-result-2
overflow_add-result-2 c = omega (arith, inside c.args.image.now c.args.number c.requires)

pub slice_bounds-result-end : goal.slice_bounds-result-end
slice_bounds-result-end c = omega (arith, inside c.args.image.now c.args.number c.requires)
