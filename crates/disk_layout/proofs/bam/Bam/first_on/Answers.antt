-- The lowest 1 of the first byte that isn't 0.
use Rattle.std.proofs.Common.{rules, ◌+◌, ◌*◌, ◌<◌, slice_index}
use Rattle.disk_layout.proofs.bam.Bam.first_on.Goals as goal
use Rattle.disk_layout.proofs.lemmas.map.Picking.{first_in}

pub returns-then-bits-ne0 : goal.returns-then-bits-ne0
returns-then-bits-ne0 c =
    let fits : slice_index c.args.self.now.bytes (4 * c.args.track + 1 + c.loop-eighth.eighth) < 256 = search rules in
    first_in c.args.self.now.bytes c.args.track c.loop-eighth.eighth c.new.result c.if-bits-ne0.true fits
    c.new.ensures.value c.loop-eighth.invariant
