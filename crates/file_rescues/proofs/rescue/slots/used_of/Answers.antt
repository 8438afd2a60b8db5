-- The entries of one sector more.
use Rattle.std.proofs.Common.{ap, arith, length, refl, sym, take, ◌+◌, ◌++◌, ◌∷◌, [], ◌≡◌, ◌∙◌}
use Rattle.std.proofs.lemmas.List.{take_all, take_more}
use Rattle.d64_image.specs.Memory.{disk_image}
use Rattle.d64_image.specs.declared.place.Place.{Place}
use Rattle.disk_layout.proofs.lemmas.chains.Directories.{used-more, used-none}
use Rattle.disk_layout.specs.Directory.{used_slots}
use Rattle.file_rescues.proofs.rescue.slots.used_of.Goals as goal

pub loop-place-init : goal.loop-place-init
loop-place-init c = record {
  items = used-none (disk_image c.args.disk.now) (take 0 c.args.directory.now) _ refl c.new-entries.ensures;
  room = omega (arith, ap length c.new-entries.ensures);
}

pub loop-place-preserved : goal.loop-place-preserved
loop-place-preserved c =
    let old = c.loop-place.invariant in
    let ps = c.args.directory.now in
    let k = c.loop-place.place-index in
    let p = c.place-item.result in
    let taken : take (k + 1) ps ≡ take k ps ++ p ∷ [] =
    take_more ps k p c.loop-place-test.true ∙ ap (λ (q : Place). take k ps ++ q ∷ []) (sym c.place-item.is) in
    record {
      items = used-more (disk_image c.args.disk.now) (take k ps) p c.sector.result.now c.loop-place.entries.items
          c.add_used.new.slots.items old.items
          c.sector.ensures c.add_used.ensures.items
          ∙ ap (used_slots (disk_image c.args.disk.now)) (sym taken);
      room = omega (arith, old.room, c.add_used.ensures.room);
    }

pub returns : goal.returns
returns c = c.loop-place.invariant.items
    ∙ ap (used_slots (disk_image c.args.disk.now)) (take_all c.loop-place.place-index c.args.directory.now c.loop-place-test.false)
