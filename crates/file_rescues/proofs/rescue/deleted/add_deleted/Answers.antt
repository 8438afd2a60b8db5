-- A deleted entry is added, and any other isn't.
use Rattle.std.proofs.Common.{ap, arith, sym, take, ◌++◌, ◌∷◌, [], ◌∙◌, ◌≡◌, List}
use Rattle.std.specs.Prelude.{filter}
use Rattle.arrayvec.specs.ArrayVec.{array_vec_len}
use Rattle.disk_layout.proofs.lemmas.counts.Slots.{all-slots}
use Rattle.disk_layout.specs.Directory.{slot_in, slots_in}
use Rattle.disk_layout.specs.declared.slot.Slot.{Slot}
use Rattle.file_rescues.proofs.lemmas.rescue.Undeleted.{deleted-kept, deleted-left}
use Rattle.file_rescues.specs.rescue.Deleted.{is_deleted}
use Rattle.file_rescues.proofs.rescue.deleted.add_deleted.Goals as goal
use Rattle.file_rescues.proofs.rescue.deleted.add_deleted.Goals.{else-is_deleted, then-is_deleted}

pub loop-number-preserved : goal.loop-number-preserved
loop-number-preserved c =
    let same : c.in_sector-slot.result ≡ slot_in c.args.place c.args.bytes.now c.loop-number.number =
    c.in_sector-slot.ensures in
    let told = ap is_deleted (sym same) ∙ sym c.is_deleted.ensures in
    elim c.if-is_deleted.branch [
      | then-is_deleted w ↦ record {
        items = ap (λ v. v.items) w.entries-is ∙ deleted-kept c.args.entries.now.items c.loop-number.entries.items
            w.push.new.self.items c.args.place c.args.bytes.now c.loop-number.number c.loop-number-test.true
            c.loop-number.invariant.items (told ∙ w.if-is_deleted.true)
            (w.push.ensures.items ∙ ap (λ (s : Slot). c.loop-number.entries.items ++ s ∷ []) same);
        room = omega (arith, ap array_vec_len w.entries-is);
      }
      | else-is_deleted w ↦ record {
        items = ap (λ v. v.items) w.entries-is ∙ deleted-left c.args.entries.now.items c.loop-number.entries.items c.args.place
            c.args.bytes.now c.loop-number.number c.loop-number-test.true c.loop-number.invariant.items
            (told ∙ w.if-is_deleted.false);
        room = omega (arith, ap array_vec_len w.entries-is);
      }
    ]

pub returns-clause-items : goal.returns-clause-items
returns-clause-items c =
    let n : c.loop-number.number ≡ 8 = omega arith in
    c.loop-number.invariant.items
    ∙ ap (λ k. c.args.entries.now.items ++ filter is_deleted (take k (slots_in c.args.place c.args.bytes.now))) n
    ∙ ap (λ (xs : List Slot). c.args.entries.now.items ++ filter is_deleted xs) (all-slots c.args.place c.args.bytes.now)
