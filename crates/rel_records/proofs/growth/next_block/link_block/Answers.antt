-- The link and the first record that isn't whole.
use Rattle.std.proofs.Common.{arith, ◌+◌}
use Rattle.rel_records.proofs.growth.next_block.link_block.Goals as goal
use Rattle.rel_records.proofs.lemmas.filling.Fulls.{records-few, records-inside}
use Rattle.rel_records.proofs.lemmas.steps.Linked.{linked-block}

pub overflow_mul-from : goal.overflow_mul-from
overflow_mul-from c = omega (
  arith,
  records-inside c.args.length c.args.blocks c.full_records.result c.full_records.ensures,
)

pub fill-requires : goal.fill-requires
fill-requires c = record {
  at = omega (arith, c.requires.few);
  total = omega (
    arith,
    c.requires.few,
    records-few c.args.length (c.args.blocks + 1) c.full_records-total.result c.full_records-total.ensures,
  );
  length = c.requires.length.low;
}

pub returns-clause-linked : goal.returns-clause-linked
returns-clause-linked c =
    linked-block c.args.bytes.now c.fill.new.bytes c.args.fresh c.args.blocks c.args.length c.track.result
    c.sector.result c.full_records.result c.full_records-total.result
    c.fill.array_long c.track.ensures c.sector.ensures c.full_records.ensures c.full_records-total.ensures
    c.fill.ensures.filled c.fill.ensures.kept

pub overflow_mul-blocks : goal.overflow_mul-blocks
overflow_mul-blocks c = omega (arith, c.requires.few)
