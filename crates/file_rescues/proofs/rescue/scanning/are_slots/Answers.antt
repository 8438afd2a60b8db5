-- One slot more.
use Rattle.std.proofs.Common.{ap, arith, drop, length, sym, ◌<◌, ◌≤◌, ◌∙◌, ◌≡◌}
use Rattle.std.proofs.lemmas.List.{drop_all}
use Rattle.std.specs.List.{list_all}
use Rattle.disk_layout.proofs.lemmas.counts.Slots.{slots-eight, slots_at}
use Rattle.disk_layout.specs.Directory.{slot_in, slots_in}
use Rattle.file_rescues.specs.rescue.Scanned.{is_slot}
use Rattle.file_rescues.proofs.lemmas.rescue.Scanned.{all-later, all-here}
use Rattle.file_rescues.proofs.rescue.scanning.are_slots.Goals as goal

pub returns-then-not-is_slot : goal.returns-then-not-is_slot
returns-then-not-is_slot c =
    let slots = slots_in c.args.place c.args.bytes.now in
    let n = c.loop-number.number in
    let slot = slot_in c.args.place c.args.bytes.now n in
    let inside : n < length slots = omega (arith, c.loop-number-test.true, slots-eight c.args.place c.args.bytes.now) in
    sym (c.loop-number.invariant.rest ∙ all-here is_slot slots n slot inside
    (slots_at c.args.place c.args.bytes.now n slot c.loop-number-test.true)
    (ap is_slot (sym c.in_sector.ensures) ∙ sym c.is_slot.ensures ∙ c.if-not-is_slot.true))

pub loop-number-preserved : goal.loop-number-preserved
loop-number-preserved c =
    let slots = slots_in c.args.place c.args.bytes.now in
    let n = c.loop-number.number in
    let slot = slot_in c.args.place c.args.bytes.now n in
    let inside : n < length slots = omega (arith, c.loop-number-test.true, slots-eight c.args.place c.args.bytes.now) in
    record {
      rest = c.loop-number.invariant.rest ∙ all-later is_slot slots n slot inside
          (slots_at c.args.place c.args.bytes.now n slot c.loop-number-test.true)
          (ap is_slot (sym c.in_sector.ensures) ∙ sym c.is_slot.ensures ∙ c.if-not-is_slot.false);
    }

pub returns : goal.returns
returns c =
    let slots = slots_in c.args.place c.args.bytes.now in
    let n : c.loop-number.number ≡ 8 = omega arith in
    let few : length slots ≤ 8 = omega (arith, slots-eight c.args.place c.args.bytes.now) in
    sym (c.loop-number.invariant.rest ∙ ap (λ k. list_all is_slot (drop k slots)) n
    ∙ ap (list_all is_slot) (drop_all 8 slots few))
