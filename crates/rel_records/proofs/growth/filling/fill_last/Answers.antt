-- The last block is filled from its first byte on, as far as whole records go.
use Rattle.std.proofs.Common.{arith}
use Rattle.rel_records.proofs.growth.filling.fill_last.Goals as goal
use Rattle.rel_records.proofs.lemmas.filling.Fulls.{records-few}

pub fill-requires : goal.fill-requires
fill-requires c = record {
  at = omega (arith, c.requires.few);
  total = omega (
    arith,
    c.requires.few,
    records-few c.args.length c.args.count c.full_records-total.result c.full_records-total.ensures,
  );
  length = c.requires.length.low;
}

pub overflow_mul-count : goal.overflow_mul-count
overflow_mul-count c = omega (arith, c.requires.few)
