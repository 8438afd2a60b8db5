-- The first free sector.
use Rattle.rel_records.proofs.growth.next_block.take_next.Goals as goal
use Rattle.rel_records.proofs.lemmas.steps.Taking.{pick-some, picked, takes-next}

pub unwrap-place-requires : goal.unwrap-place-requires
unwrap-place-requires c = pick-some c.args.map.now.bytes c.pick.result c.requires.map.0 c.requires.map.1 c.requires.some
    c.pick.ensures

pub returns : goal.returns
returns c = takes-next c.args.map.now.bytes c.take.new.self.bytes c.unwrap-place.result c.requires.map.0
    c.requires.map.1
    (picked c.args.map.now.bytes c.pick.result c.unwrap-place.result c.unwrap-place.ensures c.pick.ensures)
    c.take.ensures.taken
