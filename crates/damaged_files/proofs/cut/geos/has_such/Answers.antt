-- Entry by entry.
use Rattle.std.proofs.Common.{arith, inl, inr, length, refl, subst, sym, ◌∙◌}
use Rattle.std.proofs.lemmas.Bool.{false≢true}
use Rattle.std.proofs.lemmas.Option.{slice_get_read, slice_get_within}
use Rattle.damaged_files.proofs.lemmas.cut.Entries.{one-entry}
use Rattle.damaged_files.proofs.lemmas.Below.{below-or-here}
use Rattle.damaged_files.specs.cut.Geos.{IsGeosEntry}
use Rattle.damaged_files.proofs.cut.geos.has_such.Goals as goal

pub returns-then-is_geos_entry : goal.returns-then-is_geos_entry
returns-then-is_geos_entry c = (
  λ _. (
    c.loop-slot.slot-index,
    c.slot-item.result,
    slice_get_read c.args.slots.now (length c.args.slots.now) c.loop-slot.slot-index c.slot-item.result refl
        c.loop-slot-test.true c.slot-item.is,
    c.is_geos_entry.ensures.0 c.if-is_geos_entry.true,
  ),
  λ _. refl,
)

pub loop-slot-preserved : goal.loop-slot-preserved
loop-slot-preserved c = record {
  none = λ k s lt at stock. elim (below-or-here k c.loop-slot.slot-index lt) [
    | inl lower ↦ c.loop-slot.invariant.none k s lower at stock
    | inr here ↦
        let same = one-entry c.args.slots.now k c.loop-slot.slot-index s c.slot-item.result here at
        (slice_get_read c.args.slots.now (length c.args.slots.now) c.loop-slot.slot-index c.slot-item.result refl
        c.loop-slot-test.true c.slot-item.is) in
        false≢true (sym c.if-is_geos_entry.false ∙ c.is_geos_entry.ensures.1 (subst IsGeosEntry same stock))
  ];
}

pub returns : goal.returns
returns c = (
  λ h. absurd (false≢true h),
  λ (k, s, at, stock). absurd (c.loop-slot.invariant.none k s (omega (
    arith,
    c.loop-slot-test.false,
    slice_get_within c.args.slots.now k s at,
  )) at stock),
)
