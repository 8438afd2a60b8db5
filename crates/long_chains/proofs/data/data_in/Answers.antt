-- The sector's bytes lie in the image.
use Rattle.std.proofs.Common.{arith}
use Rattle.long_chains.proofs.Sizes.{inside}
use Rattle.long_chains.proofs.data.data_in.Goals as goal

pub overflow_mul-start : goal.overflow_mul-start
overflow_mul-start c = omega (arith, inside c.args.image.now c.args.number c.requires)

pub bounds-image-start : goal.bounds-image-start
bounds-image-start c = omega (arith, inside c.args.image.now c.args.number c.requires)

pub slice_bounds-result-end : goal.slice_bounds-result-end
slice_bounds-result-end c = omega (arith, inside c.args.image.now c.args.number c.requires)

pub overflow_add-last : goal.overflow_add-last
overflow_add-last c = omega (arith, inside c.args.image.now c.args.number c.requires)

pub bounds-image-start-2 : goal.bounds-image-start-2
bounds-image-start-2 c = omega (arith, inside c.args.image.now c.args.number c.requires)

pub overflow_add-result-2 : goal.overflow_add-result-2
overflow_add-result-2 c = omega (arith, inside c.args.image.now c.args.number c.requires)

pub overflow_add-result-3 : goal.overflow_add-result-3
overflow_add-result-3 c = omega (arith, inside c.args.image.now c.args.number c.requires, c.max.ensures)

pub overflow_add-result-4 : goal.overflow_add-result-4
overflow_add-result-4 c = omega (arith, inside c.args.image.now c.args.number c.requires, c.max.ensures)

pub slice_bounds-result-end-2 : goal.slice_bounds-result-end-2
slice_bounds-result-end-2 c = omega (arith, inside c.args.image.now c.args.number c.requires, c.max.ensures)
