-- One entry more.
use Rattle.std.proofs.Common.{ap₂, arith, sym, ◌∙◌}
use Rattle.std.proofs.lemmas.List.{take_all}
use Rattle.d64_image.specs.Memory.{disk_image}
use Rattle.disk_changes.proofs.Slots.{taken-more}
use Rattle.disk_changes.specs.Sorts.{with_entries}
use Rattle.disk_changes.proofs.sorting.put_entries.Goals as goal

pub put_entry-requires : goal.put_entry-requires
put_entry-requires c = c.requires.low c.index-slots-number.result
    (c.loop-number.number, c.loop-number-test.true, sym c.index-slots-number.is)

pub loop-number-preserved : goal.loop-number-preserved
loop-number-preserved c =
    taken-more (disk_image c.args.disk.now) (disk_image c.loop-number.disk) (disk_image c.put_entry.new.disk) c.args.slots.now
    c.args.entries.now c.loop-number.number c.index-slots-number.result c.index-entries-number.result c.loop-number-test.true
    c.requires.many (sym c.index-slots-number.is) (sym c.index-entries-number.is) c.loop-number.invariant c.put_entry.ensures

pub returns : goal.returns
returns c = c.loop-number.invariant ∙ ap₂ (with_entries (disk_image c.args.disk.now))
    (take_all c.loop-number.number c.args.slots.now c.loop-number-test.false)
    (take_all c.loop-number.number c.args.entries.now (omega (arith, c.loop-number-test.false, c.requires.many)))
