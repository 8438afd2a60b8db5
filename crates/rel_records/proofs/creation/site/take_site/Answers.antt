-- The sectors for the file, and the directory's room.
use Rattle.std.proofs.Common.{arith, ap, refl}
use Rattle.disk_layout.specs.View.{blocks_free}
use Rattle.rel_records.proofs.lemmas.creation.Sites.{before-few, no-sector, room-slot, sector-chosen, slot-chosen}
use Rattle.rel_records.proofs.creation.site.take_site.Goals as goal

pub overflow_mul-result : goal.overflow_mul-result
overflow_mul-result c = let (img, l, usable, read, room) = c.requires.of in
    omega (arith, before-few img l c.args.room usable.1.layout room)

pub overflow_add-result : goal.overflow_add-result
overflow_add-result c =
    let (img, l, usable, read, room) = c.requires.of in
    omega (
      arith,
      before-few img l c.args.room usable.1.layout room,
      (room-slot img l c.args.room c.in-Some.number room c.in-Some.is).slot.number,
    )

pub overflow_add-result-in-None : goal.overflow_add-result-in-None
overflow_add-result-in-None c = let (img, l, usable, read, room) = c.requires.of in
    omega (arith, before-few img l c.args.room usable.1.layout room)

pub overflow_mul-result-in-None : goal.overflow_mul-result-in-None
overflow_mul-result-in-None c = let (img, l, usable, read, room) = c.requires.of in
    omega (arith, before-few img l c.args.room usable.1.layout room)

pub returns-in_err-fresh-in-None : goal.returns-in_err-fresh-in-None
returns-in_err-fresh-in-None c img l usable read room =
    rw c.from_residual.ensures
    (no-sector img l usable c.args.map.bytes c.take_sectors-blocks.new.map.bytes read c.take_sectors-blocks.result.items
    c.args.count c.take_sectors-blocks.ensures.taken c.take_sectors-blocks.ensures.count c.args.room room
    c.in-None.is c.in_err-fresh-in-None.ensures)

pub returns-in-Some : goal.returns-in-Some
returns-in-Some c img l usable read room =
    slot-chosen img l usable c.args.map.bytes c.take_sectors-blocks.new.map.bytes read c.take_sectors-blocks.result.items
    c.args.count c.take_sectors-blocks.ensures.taken c.take_sectors-blocks.ensures.count _ c.args.room
    c.in-Some.number
    (λ few. omega (arith, few, c.if-blocks_free-count.false, c.blocks_free.ensures, ap blocks_free c.view.ensures))
    refl refl refl refl refl refl room c.in-Some.is

pub returns-in_ok-fresh-in-None : goal.returns-in_ok-fresh-in-None
returns-in_ok-fresh-in-None c img l usable read room =
    sector-chosen img l usable c.args.map.bytes c.take_sectors-blocks.new.map.bytes read c.take_sectors-blocks.result.items
    c.args.count c.take_sectors-blocks.ensures.taken c.take_sectors-blocks.ensures.count _ c.args.room
    c.in_ok-fresh-in-None.fresh
    (λ few. omega (arith, few, c.if-blocks_free-count.false, c.blocks_free.ensures, ap blocks_free c.view.ensures))
    refl refl refl refl refl room c.in-None.is c.in_ok-fresh-in-None.ensures c.take.ensures.taken
