-- The blocks of one entry more.
use Rattle.std.proofs.Common.{sym}
use Rattle.damaged_files.proofs.lemmas.reached.EntryBlocks.{counted-all, counted-more, counted-none}
use Rattle.damaged_files.proofs.reached.owning.owners_of.Goals as goal

pub loop-slot-init : goal.loop-slot-init
loop-slot-init c = counted-none _ c.args.directory.now c.args.slots.now _ c.of_directory-owners.ensures

pub loop-slot-preserved : goal.loop-slot-preserved
loop-slot-preserved c = counted-more _ c.args.directory.now c.args.slots.now c.loop-slot.slot-index _ _ c.slot-item.result
    _ _ _ c.loop-slot.invariant c.loop-slot-test.true (sym c.slot-item.is) c.reach_file.ensures
    (rw c.as_slice.ensures.value at c.add.ensures)

pub returns : goal.returns
returns c = counted-all _ c.args.directory.now c.args.slots.now c.loop-slot.slot-index _ c.loop-slot.invariant
    c.loop-slot-test.false
