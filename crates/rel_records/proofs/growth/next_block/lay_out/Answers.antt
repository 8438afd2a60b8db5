-- What is laid out, from the parts that are made.
use Rattle.std.proofs.Common.{arith, refl, ◌+◌}
use Rattle.rel_records.proofs.growth.next_block.lay_out.Goals as goal
use Rattle.rel_records.proofs.lemmas.steps.Taking.{laid-out}

pub returns-clause-laid_out : goal.returns-clause-laid_out
returns-clause-laid_out c =
    let m = c.take_places-fresh.new.parts in
    laid-out c.args.parts.now m _ c.take_places-fresh.result c.make_fresh.new.bytes c.len-count.result
    (c.len.result + c.len-2.result) c.take_places-fresh.ensures.places c.take_places-fresh.ensures.last
    c.take_places-fresh.ensures.directory
    refl refl refl refl refl refl c.len-count.ensures.value c.make_fresh.ensures c.link_block.ensures.linked
    c.set_count.ensures.rest (omega (arith, c.len.ensures.value, c.len-2.ensures.value)) c.set_count.ensures.count

pub take_places-fresh-requires : goal.take_places-fresh-requires
take_places-fresh-requires c = record {
  room = c.requires.room;
  map = c.requires.map;
  few = c.requires.few;
  sides = c.requires.sides;
}

pub overflow_cast-count : goal.overflow_cast-count
overflow_cast-count c = omega (arith, c.len-count.ensures.value, c.requires.few)

pub link_block-requires-clause-some : goal.link_block-requires-clause-some
link_block-requires-clause-some c = omega (arith, c.len-count.ensures.value, c.requires.some)

pub link_block-requires-clause-few : goal.link_block-requires-clause-few
link_block-requires-clause-few c = omega (arith, c.len-count.ensures.value, c.requires.few)

pub overflow_add-owned : goal.overflow_add-owned
overflow_add-owned c = omega (arith, c.len.ensures.fits, c.len-2.ensures.fits)

pub overflow_cast-owned : goal.overflow_cast-owned
overflow_cast-owned c = omega (arith, c.len.ensures.fits, c.len-2.ensures.fits)

pub make_fresh-requires-clause-few : goal.make_fresh-requires-clause-few
make_fresh-requires-clause-few c = omega (arith, c.len-count.ensures.value, c.requires.few)
