-- The block is filled from its first byte on, as far as whole records go.
use Rattle.std.proofs.Common.{arith, ◌+◌}
use Rattle.rel_records.proofs.growth.next_block.make_fresh.Goals as goal
use Rattle.rel_records.proofs.lemmas.filling.Fulls.{records-few}

pub fill-requires : goal.fill-requires
fill-requires c = record {
  at = omega (arith, c.requires.few);
  total = omega (
    arith,
    c.requires.few,
    records-few c.args.length (c.args.behind + 1) c.full_records.result c.full_records.ensures,
  );
  length = c.requires.length.low;
}

pub overflow_mul-at : goal.overflow_mul-at
overflow_mul-at c = omega (arith, c.requires.few)
