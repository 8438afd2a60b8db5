-- Where the side sectors are full, a second sector.
use Rattle.std.proofs.Common.{arith, refl, ◌≡◌, ◌%◌, length, ap, sym, ◌∙◌}
use Rattle.rel_records.proofs.growth.next_block.take_places.Goals as goal
use Rattle.rel_records.proofs.lemmas.steps.Taking.{places-side, taken-two, taken-some}

pub returns-clause-places : goal.returns-clause-places
returns-clause-places c =
    let p = c.args.parts.now in
    let full : length p.blocks.items % 120 ≡ 0 = ap (λ n. n % 120) (sym c.len.ensures.value) ∙ c.if-not-full.false in
    places-side p _ c.take_next-fresh.new.map.bytes c.take_next-fresh.result c.take_next-side.result
    c.take_next-fresh.ensures c.take_next-side.ensures full c.push.ensures.items c.push-2.ensures.items refl refl
    refl

pub take_next-side-requires-clause-some : goal.take_next-side-requires-clause-some
take_next-side-requires-clause-some c = omega (
  arith,
  c.requires.room,
  c.take_next-fresh.ensures.free,
  taken-two (length c.args.parts.now.blocks.items) (ap (λ n. n % 120) (sym c.len.ensures.value)
      ∙ c.if-not-full.false),
)

pub take_next-fresh-requires-clause-some : goal.take_next-fresh-requires-clause-some
take_next-fresh-requires-clause-some c =
    omega (arith, c.requires.room, taken-some (length c.args.parts.now.blocks.items))
