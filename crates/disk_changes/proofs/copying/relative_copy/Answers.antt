-- The records were copied, or not.
use Rattle.std.proofs.Common.{Err, List, ap, inl, inr, subst, ℕ, ◌∙◌}
use Rattle.std.proofs.lemmas.Result.{IfErr-weaker, IfOk-weaker, err_from_is_err_and}
use Rattle.disk_changes.specs.Copies.{IsNoRecordCopyOf, IsRecordCopyOf}
use Rattle.disk_changes.proofs.copying.relative_copy.Goals as goal

pub returns-in_err-text-clause-err : goal.returns-in_err-text-clause-err
returns-in_err-text-clause-err c =
    let p = err_from_is_err_and c.from_residual.result c.from_residual.ensures.1 in
    rw (p.1 ∙ ap Err p.2) (inl c.in_err-text.ensures.err)

pub returns-clause-ok : goal.returns-clause-ok
returns-clause-ok c = IfOk-weaker c.record_copy.result _ _
    (λ made is. (
      c.in_ok-text.text.items,
      c.in_ok-text.ensures.ok,
      subst (λ (bytes : List ℕ). IsRecordCopyOf c.args.entry.now bytes c.args.to.now c.args.image.now c.args.cut made)
          c.as_slice.ensures.value is,
    )) c.record_copy.ensures.ok

pub returns-clause-err : goal.returns-clause-err
returns-clause-err c = IfErr-weaker c.record_copy.result _ _
    (λ why no. inr (
      c.in_ok-text.text.items,
      c.in_ok-text.ensures.ok,
      subst (λ (bytes : List ℕ). IsNoRecordCopyOf c.args.entry.now bytes c.args.to.now c.args.image.now c.args.cut why)
          c.as_slice.ensures.value no,
    )) c.record_copy.ensures.err
