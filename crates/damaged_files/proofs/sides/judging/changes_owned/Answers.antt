-- Sector by sector.
use Rattle.std.proofs.Common.{arith}
use Rattle.d64_image.proofs.Order.{each-more}
use Rattle.d64_image.proofs.Places.{index_below}
use Rattle.d64_image.specs.Memory.{disk_image}
use Rattle.damaged_files.specs.sides.Compared.{SameOrOwned}
use Rattle.damaged_files.proofs.sides.judging.changes_owned.Goals as goal

pub loop-index-preserved : goal.loop-index-preserved
loop-index-preserved c m of =
    each-more (SameOrOwned (disk_image c.args.before.now) (disk_image c.args.after.now) m) c.loop-index.index
    c.nth.result c.nth.ensures (c.loop-index.invariant m of)
    (c.is_same_or_owned.ensures c.if-not-is_same_or_owned.false m of)

pub returns : goal.returns
returns c t m of p =
    c.loop-index.invariant m of p (omega (arith, index_below p, c.loop-index-test.false))
