-- The chain was cut before this block, or all of it came to the file.
use Rattle.std.proofs.Common.{arith, inl, inr, sym, ◌∙◌}
use Rattle.d64_image.specs.Memory.{disk_image}
use Rattle.geos_files.proofs.Parts.{cut-part, whole-part}
use Rattle.geos_files.proofs.chains.add_chain.Goals as goal

pub returns-then-ends_before-clause-part : goal.returns-then-ends_before-clause-part
returns-then-ends_before-clause-part c =
    let old = c.loop-place.invariant in
    rw (c.cut.ensures.fault, c.cut.ensures.last)
    (cut-part (disk_image c.args.disk.now) c.args.most c.args.from c.args.first c.args.blocks.now.items
    c.loop-place.blocks.items _ _ _ c.loop-place.place-index c.place-item.result c.loop-place.before old.reach
    c.loop-place-test.true c.place-item.is (omega (arith, old.count, old.few)) old.are old.marked.once
    (elim (c.ends_before.ensures.0 c.if-ends_before.true) [
      | inl full ↦ inl (sym old.count ∙ full)
      | inr has ↦ inr ((old.marked.marks c.place-item.result).0 has)
    ])
    old.before)

pub returns-clause-part : goal.returns-clause-part
returns-clause-part c =
    let old = c.loop-place.invariant in
    whole-part (disk_image c.args.disk.now) c.args.most c.args.from c.args.first c.args.blocks.now.items
    c.loop-place.blocks.items _ _ _ c.loop-place.place-index old.reach c.loop-place-test.false
    (omega (arith, old.count, old.few)) old.are old.marked.once
