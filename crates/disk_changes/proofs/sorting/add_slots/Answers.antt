-- The eight slots, one after another.
use Rattle.std.proofs.Common.{ap, arith, take, ◌++◌, ◌∷◌, [], ◌∙◌, ◌≡◌, List}
use Rattle.disk_changes.proofs.Slots.{slot-more}
use Rattle.disk_layout.proofs.lemmas.counts.Slots.{all-slots}
use Rattle.disk_layout.specs.Directory.{slots_in}
use Rattle.disk_layout.specs.declared.slot.Slot.{Slot}
use Rattle.disk_changes.proofs.sorting.add_slots.Goals as goal

pub loop-number-preserved : goal.loop-number-preserved
loop-number-preserved c =
    let old = c.loop-number.invariant in
    record {
      items = slot-more c.args.slots.now.items c.loop-number.slots.items c.push.new.self.items c.args.place c.args.bytes.now
          c.loop-number.number c.loop-number-test.true old.items
          (c.push.ensures.items ∙ ap (λ (s : Slot). c.loop-number.slots.items ++ s ∷ []) c.in_sector.ensures);
      room = omega (arith, old.room, c.push.ensures.len);
    }

pub returns-clause-items : goal.returns-clause-items
returns-clause-items c =
    let n : c.loop-number.number ≡ 8 = omega arith in
    c.loop-number.invariant.items
    ∙ ap (λ k. c.args.slots.now.items ++ take k (slots_in c.args.place c.args.bytes.now)) n
    ∙ ap (λ (xs : List Slot). c.args.slots.now.items ++ xs) (all-slots c.args.place c.args.bytes.now)
