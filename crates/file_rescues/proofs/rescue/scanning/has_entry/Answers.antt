-- One slot more.
use Rattle.std.proofs.Common.{ap, arith, drop, length, sym, ◌<◌, ◌≤◌, ◌∙◌, ◌≡◌}
use Rattle.std.proofs.lemmas.List.{drop_all}
use Rattle.std.specs.List.{list_any}
use Rattle.disk_layout.proofs.lemmas.counts.Slots.{slots-eight, slots_at}
use Rattle.disk_layout.specs.Directory.{slot_in, slots_in}
use Rattle.disk_layout.specs.Directory.{is_used}
use Rattle.file_rescues.proofs.lemmas.rescue.Scanned.{any-later, any-here}
use Rattle.file_rescues.proofs.rescue.scanning.has_entry.Goals as goal

pub returns-then-is_used : goal.returns-then-is_used
returns-then-is_used c =
    let slots = slots_in c.args.place c.args.bytes.now in
    let n = c.loop-number.number in
    let slot = slot_in c.args.place c.args.bytes.now n in
    let inside : n < length slots = omega (arith, c.loop-number-test.true, slots-eight c.args.place c.args.bytes.now) in
    sym (c.loop-number.invariant.rest ∙ any-here is_used slots n slot inside
    (slots_at c.args.place c.args.bytes.now n slot c.loop-number-test.true)
    (ap is_used (sym c.in_sector.ensures) ∙ sym c.is_used.ensures ∙ c.if-is_used.true))

pub loop-number-preserved : goal.loop-number-preserved
loop-number-preserved c =
    let slots = slots_in c.args.place c.args.bytes.now in
    let n = c.loop-number.number in
    let slot = slot_in c.args.place c.args.bytes.now n in
    let inside : n < length slots = omega (arith, c.loop-number-test.true, slots-eight c.args.place c.args.bytes.now) in
    record {
      rest = c.loop-number.invariant.rest ∙ any-later is_used slots n slot inside
          (slots_at c.args.place c.args.bytes.now n slot c.loop-number-test.true)
          (ap is_used (sym c.in_sector.ensures) ∙ sym c.is_used.ensures ∙ c.if-is_used.false);
    }

pub returns : goal.returns
returns c =
    let slots = slots_in c.args.place c.args.bytes.now in
    let n : c.loop-number.number ≡ 8 = omega arith in
    let few : length slots ≤ 8 = omega (arith, slots-eight c.args.place c.args.bytes.now) in
    sym (c.loop-number.invariant.rest ∙ ap (λ k. list_any is_used (drop k slots)) n
    ∙ ap (list_any is_used) (drop_all 8 slots few))
