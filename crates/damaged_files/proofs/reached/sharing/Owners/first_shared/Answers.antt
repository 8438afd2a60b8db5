-- A block that several have is the first one.
use Rattle.std.proofs.Common.{refl, sym}
use Rattle.damaged_files.proofs.lemmas.reached.Counts.{shared-here, shared-later, shared-none}
use Rattle.damaged_files.proofs.reached.sharing.Owners.first_shared.Goals as goal

pub loop-block-init : goal.loop-block-init
loop-block-init c = λ all counts. refl

pub returns-then-self-index-ge2 : goal.returns-then-self-index-ge2
returns-then-self-index-ge2 c = λ all counts. shared-here all c.args.blocks.now c.loop-block.block-index c.block-item.result
    c.args.self.now counts c.loop-block-test.true (sym c.block-item.is)
    (rw c.index.ensures.value at c.if-self-index-ge2.true) (c.loop-block.invariant all counts)

pub loop-block-preserved : goal.loop-block-preserved
loop-block-preserved c = λ all counts. shared-later all c.args.blocks.now c.loop-block.block-index c.block-item.result
    c.args.self.now counts c.loop-block-test.true (sym c.block-item.is)
    (rw c.index.ensures.value at c.if-self-index-ge2.false) (c.loop-block.invariant all counts)

pub returns : goal.returns
returns c = λ all counts. shared-none all c.args.blocks.now c.loop-block.block-index c.loop-block-test.false
    (c.loop-block.invariant all counts)
