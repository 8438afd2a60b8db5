-- The index, for the last of the blocks.
use Rattle.std.proofs.Common.{arith}
use Rattle.rel_records.proofs.lemmas.filling.Fulls.{records-inside}
use Rattle.rel_records.proofs.sizes.last_index.Goals as goal

pub overflow_mul-result : goal.overflow_mul-result
overflow_mul-result c = omega (
  arith,
  records-inside c.args.length c.args.blocks c.full_records.result c.full_records.ensures,
)

pub overflow_add-result : goal.overflow_add-result
overflow_add-result c = omega (
  arith,
  records-inside c.args.length c.args.blocks c.full_records.result c.full_records.ensures,
)

pub overflow_cast-result-3 : goal.overflow_cast-result-3
overflow_cast-result-3 c = omega (
  arith,
  records-inside c.args.length c.args.blocks c.full_records.result c.full_records.ensures,
)
