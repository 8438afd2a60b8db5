-- The slots of one sector more.
use Rattle.std.proofs.Common.{ap, arith, length, sym, ◌∙◌}
use Rattle.std.proofs.lemmas.List.{take_all}
use Rattle.d64_image.specs.Memory.{disk_image}
use Rattle.disk_changes.proofs.Slots.{sector-more}
use Rattle.disk_changes.specs.Sorts.{all_slots}
use Rattle.disk_changes.proofs.sorting.slots_of.Goals as goal

pub loop-place-init : goal.loop-place-init
loop-place-init c = record {
  items = c.new-slots.ensures;
  room = omega (arith, ap length c.new-slots.ensures);
}

pub loop-place-preserved : goal.loop-place-preserved
loop-place-preserved c =
    let old = c.loop-place.invariant in
    record {
      items = sector-more (disk_image c.args.disk.now) c.args.directory.now c.loop-place.place-index c.place-item.result
          c.sector.result.now c.loop-place.slots.items c.add_slots.new.slots.items c.loop-place-test.true
          (sym c.place-item.is) c.sector.ensures old.items c.add_slots.ensures.items;
      room = omega (arith, old.room, c.add_slots.ensures.room);
    }

pub returns : goal.returns
returns c = c.loop-place.invariant.items
    ∙ ap (all_slots (disk_image c.args.disk.now)) (take_all c.loop-place.place-index c.args.directory.now c.loop-place-test.false)
