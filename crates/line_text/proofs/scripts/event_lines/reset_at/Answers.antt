-- The numbers of a reset.
use Rattle.std.proofs.Common.{sym, ◌∙◌, ap, length, arith}
use Rattle.std.specs.Prelude.{option_map}
use Rattle.line_text.specs.scripts.Resets.{fields_left, line_in}
use Rattle.line_text.proofs.lemmas.scripts.Resets.{
  with_left,
  first_read,
  first_not,
  next_not,
  next_read,
  no_space,
  once_taken,
  taken,
}
use Rattle.line_text.proofs.scripts.event_lines.reset_at.Goals as goal

pub returns-in_err-counts : goal.returns-in_err-counts
returns-in_err-counts c = ap (option_map line_in) c.from_residual.ensures
    ∙ sym (no_space c.args.bytes.now (sym c.in_err-counts.ensures))

pub returns-in_err-after : goal.returns-in_err-after
returns-in_err-after c =
    ap (option_map line_in) c.from_residual-in_err-after.ensures
    ∙ sym (first_not c.args.bytes.now _ _ _ _ (sym c.in_ok-counts.ensures) c.first_field.ensures.fields
    (sym c.in_err-after.ensures.exact))

pub loop-rest-init : goal.loop-rest-init
loop-rest-init c = record {
  read = first_read c.args.bytes.now _ _ _ _ c.in_ok-after.after (sym c.in_ok-counts.ensures)
      c.first_field.ensures.fields (sym c.in_ok-after.ensures.exact)
      ∙ ap (λ xs. with_left c.in_ok-counts.message.now c.in_ok-after.after xs
      (fields_left (option_map (λ r. r.now) c.first_field.result.1))) (sym c.new-recoveries.ensures);
  few = omega (arith, ap length c.new-recoveries.ensures);
}

pub returns-in_err-count : goal.returns-in_err-count
returns-in_err-count c =
    let pieces = ap (λ o. fields_left (option_map (λ r. r.now) o)) c.in-Some.is
    ∙ c.first_field-in-Some.ensures.fields in
    ap (option_map line_in) c.from_residual-in_err-count.ensures
    ∙ sym (next_not c.args.bytes.now _ _ _ _ _ _ c.loop-rest.invariant.read pieces (sym c.in_err-count.ensures.exact))

pub loop-rest-preserved : goal.loop-rest-preserved
loop-rest-preserved c =
    let pieces = ap (λ o. fields_left (option_map (λ r. r.now) o)) c.in-Some.is
    ∙ c.first_field-in-Some.ensures.fields in
    let pushed = once_taken c.try_push.result c.if-is_err.ensures.value c.try_push.ensures.ok in
    record {
      read = next_read c.args.bytes.now _ _ _ _ _ _ _ _ c.loop-rest.invariant.read pieces
          (sym c.in_ok-count.ensures.exact) pushed;
      few = omega (
        arith,
        once_taken c.try_push.result c.if-is_err.ensures.value c.try_push.ensures.len,
        c.try_push.ensures.variant.0 (taken c.try_push.result c.if-is_err.ensures.value),
      );
    }
