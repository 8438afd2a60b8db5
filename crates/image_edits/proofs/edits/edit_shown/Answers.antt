-- What is printed is of the bytes that the host says.
use Rattle.std.proofs.Common.{◌∙◌, Err, List, ap, inl, subst, sym, ℕ}
use Rattle.std.proofs.lemmas.Result.{err_from_is_err_and}
use Rattle.image_edits.specs.Sources.{IsSourceFor}
use Rattle.opened_files.proofs.Near.{not-near}
use Rattle.opened_files.specs.Losses.{IsNear}
use Rattle.image_edits.proofs.edits.edit_shown.Goals as goal

pub returns-in_err-image : goal.returns-in_err-image
returns-in_err-image g c =
    let p = err_from_is_err_and c.from_residual.result c.from_residual.ensures.1 in
    not-near c.args.out.now c.from_residual.result _ _ c.args.loss _ (p.1 ∙ ap Err p.2) c.in_err-image.ensures.err

pub returns-in_err-source : goal.returns-in_err-source
returns-in_err-source g c =
    let p = err_from_is_err_and c.from_residual-in_err-source.result c.from_residual-in_err-source.ensures.1 in
    not-near c.args.out.now c.from_residual-in_err-source.result _ _ _ _ (p.1 ∙ ap Err p.2) (inl c.in_err-source.ensures.err)

pub returns : goal.returns
returns g c = inl (inl (
  c.as_slice-2.result.now,
  c.as_slice.result.now,
  (λ other alone all is. c.as_slice-2.ensures.value ∙ c.in_ok-image.ensures.read other alone all is),
  subst (λ (bytes : List ℕ). IsNear c.args.loss bytes) (sym c.as_slice-2.ensures.value) c.in_ok-image.ensures.near,
  subst (IsSourceFor g.R.HostFiles.rights g.R.HostFiles.stands c.args.rt.now c.args.kind.now) (sym c.as_slice.ensures.value)
      c.in_ok-source.ensures.read,
  (c.show_change.result, c.change_end.ensures, c.show_change.ensures),
))
