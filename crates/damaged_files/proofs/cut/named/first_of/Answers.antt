-- Entry by entry: none has the name yet, or this one is the first.
use Rattle.std.proofs.Common.{arith, inl, inr, length, refl, subst, sym, ◌∙◌}
use Rattle.std.proofs.lemmas.Bool.{false≢true}
use Rattle.std.proofs.lemmas.Option.{slice_get_read, slice_get_within}
use Rattle.damaged_files.proofs.lemmas.cut.Entries.{one-entry}
use Rattle.damaged_files.proofs.lemmas.Below.{below-or-here}
use Rattle.damaged_files.specs.cut.OfName.{IsOfName}
use Rattle.damaged_files.proofs.cut.named.first_of.Goals as goal

pub loop-slot-preserved : goal.loop-slot-preserved
loop-slot-preserved c = record {
  none = λ k s lt at named. elim (below-or-here k c.loop-slot.slot-index lt) [
    | inl lower ↦ c.loop-slot.invariant.none k s lower at named
    | inr here ↦
        let same = one-entry c.args.slots.now k c.loop-slot.slot-index s c.slot-item.result here at
        (slice_get_read c.args.slots.now (length c.args.slots.now) c.loop-slot.slot-index c.slot-item.result refl
        c.loop-slot-test.true c.slot-item.is) in
        false≢true (sym c.if-is_of_name.false ∙ c.is_of_name.ensures.1 (subst (IsOfName c.args.name.now) same named))
  ];
}

pub returns-then-is_of_name : goal.returns-then-is_of_name
returns-then-is_of_name c = record {
  number = c.loop-slot.slot-index;
  there = slice_get_read c.args.slots.now (length c.args.slots.now) c.loop-slot.slot-index
      c.slot-item.result refl c.loop-slot-test.true c.slot-item.is;
  named = c.is_of_name.ensures.0 c.if-is_of_name.true;
  first = λ k t lt at. c.loop-slot.invariant.none k t lt at;
}

pub returns : goal.returns
returns c k t at named = c.loop-slot.invariant.none k t (omega (
  arith,
  c.loop-slot-test.false,
  slice_get_within c.args.slots.now k t at,
)) at named
