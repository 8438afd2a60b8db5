-- Entry by entry: none bears the name yet, or this one does.
use Rattle.std.proofs.Common.{arith, length, refl, subst, sym, ◌∙◌, ◌≡◌}
use Rattle.std.specs.Prelude.{slice_range}
use borrow.Author.Count.{below_more}
use Rattle.std.proofs.lemmas.Bool.{false≢true}
use Rattle.std.proofs.lemmas.Option.{slice_get_read}
use Rattle.disk_layout.specs.declared.slot.Slot.{Slot}
use Rattle.rel_records.proofs.creation.directory_room.has_name.Goals as goal
use Rattle.rel_records.proofs.lemmas.directory.Rooms.{contains-get}
use Rattle.rel_records.proofs.lemmas.reading.Found.{same-slot}

pub returns-then-has_padded_name : goal.returns-then-has_padded_name
returns-then-has_padded_name c = (
  λ t. (
    c.slot-item.result,
    (c.loop-slot.slot-index, c.loop-slot-test.true, sym c.slot-item.is),
    c.has_padded_name.ensures.0 c.if-has_padded_name.true,
  ),
  λ x. refl,
)

pub loop-slot-preserved : goal.loop-slot-preserved
loop-slot-preserved c =
    let x = c.slot-item.result in
    let there = slice_get_read c.args.slots.now (length c.args.slots.now) c.loop-slot.slot-index x refl
    c.loop-slot-test.true c.slot-item.is in
    record {
      none = below_more _ _ c.loop-slot.invariant.none (λ s at e.
          let same : x ≡ s = same-slot c.args.slots.now c.loop-slot.slot-index x s there at in
          let P : Slot → Type 0 = λ y. slice_range y.bytes 5 21 ≡ c.args.padded.now in
          false≢true (sym c.if-has_padded_name.false ∙ c.has_padded_name.ensures.1 (subst P (sym same) e)));
    }

pub returns : goal.returns
returns c = (
  λ t. absurd (false≢true t),
  λ (s, on, e).
      let (k, lt, there) = contains-get c.args.slots.now s on in
      absurd (c.loop-slot.invariant.none k (omega (arith, lt, c.loop-slot-test.false)) s there e),
)
