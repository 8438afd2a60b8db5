-- Entry by entry: none has the name yet, or this one is the first.
use Rattle.std.proofs.Common.{length, refl, subst, sym, ◌∙◌}
use borrow.Author.Count.{below_more}
use Rattle.std.proofs.lemmas.Bool.{false≢true}
use Rattle.std.proofs.lemmas.Option.{slice_get_read}
use Rattle.disk_layout.specs.declared.slot.Slot.{Slot}
use Rattle.rel_records.proofs.lemmas.reading.Found.{same-slot}
use Rattle.file_changes.specs.Entries.{HasName}
use Rattle.file_changes.proofs.entries.first_named.Goals as goal

pub loop-number-preserved : goal.loop-number-preserved
loop-number-preserved c =
    let there = slice_get_read c.args.entries.now (length c.args.entries.now) c.loop-number.number
    c.index-entries-number.result refl c.loop-number-test.true c.index-entries-number.is in
    record {
      none = below_more _ _ c.loop-number.invariant.none (λ s at named.
          let P : Slot → Type 0 = λ x. HasName c.args.padded.now x in
          false≢true (sym c.if-has_padded_name.false ∙ c.has_padded_name.ensures.1 (subst P (sym (same-slot c.args.entries.now
          c.loop-number.number c.index-entries-number.result s there at)) named)));
    }

pub returns-then-has_padded_name : goal.returns-then-has_padded_name
returns-then-has_padded_name c = (
  c.index-entries-number.result,
  record {
    there = slice_get_read c.args.entries.now (length c.args.entries.now) c.loop-number.number
        c.index-entries-number.result refl c.loop-number-test.true c.index-entries-number.is;
    named = c.has_padded_name.ensures.0 c.if-has_padded_name.true;
    first = λ k s lt at. c.loop-number.invariant.none k lt s at;
  },
)
