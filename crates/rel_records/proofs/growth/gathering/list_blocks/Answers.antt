-- Pointer by pointer.
use Rattle.std.proofs.Common.{arith}
use Rattle.rel_records.proofs.growth.gathering.list_blocks.Goals as goal
use Rattle.rel_records.proofs.lemmas.growth.Gathered.{listed-more, named-there, some-of}

pub unwrap-requires : goal.unwrap-requires
unwrap-requires c =
    let (qs, long, named) = c.requires.named in
    let (q, there, found) = named-there c.args.bytes.now qs 16 c.loop-number.number c.block.result
    (omega (arith, c.loop-number-test.true, long)) named (rw c.new-view.ensures at c.block.ensures) in
    some-of c.block.result q found

pub loop-number-preserved : goal.loop-number-preserved
loop-number-preserved c qs long named =
    listed-more c.args.bytes.now qs c.loop-number.blocks.items c.push.new.self.items c.args.blocks.now.items 16
    c.loop-number.number c.block.result c.unwrap.result (omega (arith, c.loop-number-test.true, long)) named
    (rw c.new-view.ensures at c.block.ensures) c.unwrap.ensures
    (c.loop-number.invariant qs long named) c.push.ensures.items

pub block-requires : goal.block-requires
block-requires c = record { listed = omega (arith, c.loop-number-test.true, c.requires.few) }
