-- The entries of one sector more.
use Rattle.std.proofs.Common.{ap, arith, length, sym, ◌∙◌}
use Rattle.std.proofs.lemmas.List.{take_all}
use Rattle.d64_image.specs.Memory.{disk_image}
use Rattle.file_rescues.proofs.lemmas.rescue.Undeleted.{deleted-more}
use Rattle.file_rescues.specs.rescue.Deleted.{deleted_slots}
use Rattle.file_rescues.proofs.rescue.deleted.deleted_of.Goals as goal

pub loop-place-init : goal.loop-place-init
loop-place-init c = record {
  items = c.new-entries.ensures;
  room = omega (arith, ap length c.new-entries.ensures);
}

pub loop-place-preserved : goal.loop-place-preserved
loop-place-preserved c =
    let old = c.loop-place.invariant in
    record {
      items = deleted-more (disk_image c.args.disk.now) c.args.directory.now c.loop-place.place-index c.place-item.result
          c.sector.result.now c.loop-place.entries.items c.add_deleted.new.entries.items c.loop-place-test.true
          (sym c.place-item.is) c.sector.ensures
          old.items c.add_deleted.ensures.items;
      room = omega (arith, old.room, c.add_deleted.ensures.room);
    }

pub returns : goal.returns
returns c = c.loop-place.invariant.items
    ∙ ap (deleted_slots (disk_image c.args.disk.now)) (take_all c.loop-place.place-index c.args.directory.now c.loop-place-test.false)
