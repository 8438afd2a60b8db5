-- What the slot shows, or what its kind of file gives.
use Rattle.layout_check.proofs.lemmas.owners.Clashes.{closed-high}
use Rattle.disk_layout.specs.Layout.{is_rel_type}
use Rattle.std.proofs.Common.{inl, inr, rules, slice_index, sym, ◌∙◌, ◌≡◌, ap, List, ℕ}
use Rattle.std.proofs.lemmas.Bool.{cases_eq, false≢true}
use Rattle.std.proofs.lemmas.Result.{err_from_is_err_and}
use Rattle.layout_check.proofs.lemmas.judging.Calls.{passes_none}
use Rattle.layout_check.proofs.lemmas.finding.Entries.{shown-tells, closed-entry}
use Rattle.layout_check.proofs.lemmas.finding.Finding.{empty-finds}
use Rattle.layout_check.proofs.files.survey_entry.Goals as goal

pub returns-in_err-judge_entry : goal.returns-in_err-judge_entry
returns-in_err-judge_entry g c =
    let p = err_from_is_err_and c.from_residual.result c.from_residual.ensures.1 in
    record {
      ok = rw p.1 tt;
      err = rw (p.1, p.2) (inl (shown-tells g.D.Sectors.history c.args.disk.now 732 c.args.slot.now _ c.requires.entry
          c.in_err-judge_entry.ensures.err));
    }

pub returns-then-is_relative : goal.returns-then-is_relative
returns-then-is_relative g c = record {
  ok = c.survey_relative.ensures.ok;
  err = c.survey_relative.ensures.err;
}

pub returns-then-not-has_first_block : goal.returns-then-not-has_first_block
returns-then-not-has_first_block g c = record {
  ok = let none : slice_index c.args.slot.now.bytes 3 ≡ 0 = elim (cases_eq (slice_index c.args.slot.now.bytes 3) 0) [
    | inl e ↦ e
    | inr ne ↦ absurd (false≢true (sym c.if-not-has_first_block.true
        ∙ c.has_first_block.ensures.1 (rw c.new-entry.ensures ne)))
  ] in
      empty-finds g.D.Sectors.history c.args.disk.now c.args.slot.now c.args.number c.args.owners.now
      c.in_ok-judge_entry.ensures.ok (search rules) none (passes_none g.D.Sectors.history c.args.disk.now);
  err = tt;
}

pub returns : goal.returns
returns g c = record {
  ok = c.in_ok-survey_plain.ensures.ok;
  err = tt;
}

pub returns-in_err-survey_plain : goal.returns-in_err-survey_plain
returns-in_err-survey_plain g c =
    let p = err_from_is_err_and c.from_residual-in_err-survey_plain.result
    c.from_residual-in_err-survey_plain.ensures.1 in
    record {
      ok = rw p.1 tt;
      err = rw (p.1, p.2) c.in_err-survey_plain.ensures.err;
    }

pub survey_relative-requires : goal.survey_relative-requires
survey_relative-requires g c = record {
  closed = closed-entry _ c.args.slot.now c.requires.entry (closed-high _ c.in_ok-judge_entry.ensures.ok.closed);
  proper = c.in_ok-judge_entry.ensures.ok;
  rel = sym (c.is_relative.ensures
      ∙ ap (λ (bs : List ℕ). is_rel_type (slice_index bs 2)) c.new-entry.ensures) ∙ c.if-is_relative.true;
  some = c.requires.some;
}

pub survey_plain-requires : goal.survey_plain-requires
survey_plain-requires g c = record {
  closed = closed-entry _ c.args.slot.now c.requires.entry (closed-high _ c.in_ok-judge_entry.ensures.ok.closed);
  proper = c.in_ok-judge_entry.ensures.ok;
  plain = sym (c.is_relative.ensures
      ∙ ap (λ (bs : List ℕ). is_rel_type (slice_index bs 2)) c.new-entry.ensures) ∙ c.if-is_relative.false;
  names = rw c.new-entry.ensures at (c.has_first_block.ensures.0 c.if-not-has_first_block.false);
  some = c.requires.some;
}
