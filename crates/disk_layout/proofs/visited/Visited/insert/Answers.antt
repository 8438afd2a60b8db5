-- One more mark, and one place less without a mark.
use Rattle.std.proofs.Common.{arith}
use Rattle.d64_image.specs.Places.{index_of}
use Rattle.d64_image.proofs.Places.{index_below}
use Rattle.disk_layout.proofs.lemmas.lists.Marks.{marked, unmarked_less}
use Rattle.disk_layout.specs.Visited.{room}
use Rattle.disk_layout.proofs.visited.Visited.insert.Goals as goal

pub returns-clause-now : goal.returns-clause-now
returns-clause-now c = rw c.index.ensures.value (marked c.args.self.now.seen c.args.place c.args.self.now.full)

pub returns-clause-room : goal.returns-clause-room
unfolding room
returns-clause-room c = rw c.index.ensures.value (unmarked_less c.args.self.now.seen (index_of c.args.place)
    (omega (arith, c.args.self.now.full, index_below c.args.place)) c.requires.free)
