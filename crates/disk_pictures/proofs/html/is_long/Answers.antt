-- The bytes so far take more than 48.
use Rattle.disk_pictures.proofs.Opening.{part-long}
use Rattle.disk_pictures.proofs.html.is_long.Goals as goal

pub returns-then-count-gt48 : goal.returns-then-count-gt48
returns-then-count-gt48 c = part-long c.args.bytes.now c.loop-byte.byte-index c.loop-byte.count
    c.html_length-count.result c.loop-byte-test.true c.loop-byte.invariant.so_far c.html_length-count.ensures
    c.if-count-gt48.true
