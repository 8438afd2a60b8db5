-- The change of the image at the path, as the job's end.
use Rattle.std.proofs.Common.{◌∙◌, Err, ap, inl, inr, refl}
use Rattle.std.proofs.lemmas.Result.{err_from_is_err_and}
use Rattle.std.specs.IoError.{error_kind}
use Rattle.std.specs.Prelude.{⊤}
use Rattle.image_edits.proofs.ChangedOver.{uncalled}
use Rattle.disk_changes.specs.Changes.{IsRefused}
use Rattle.folder_changes.proofs.Changed.{told-weaker}
use Rattle.image_edits.proofs.changing.change_taken.Goals as goal

pub returns-in_err-ended : goal.returns-in_err-ended
returns-in_err-ended g c =
    let p = err_from_is_err_and c.from_residual-in_err-ended.result c.from_residual-in_err-ended.ensures.1 in
    rw (p.1 ∙ ap Err p.2)
    (inr (c.in_err-ended.ensures.quiet refl, refl, uncalled (error_kind c.in_err-ended.field-0.0)))

pub returns : goal.returns
returns g c =
    let what = c.args.what.now in
    let image = c.args.image.now in
    inl (
      c.in_ok-ended.ended,
      c.change_end.ensures,
      told-weaker g.W.Write.contents _ _ (IsRefused what image) (IsRefused what image) ⊤ ⊤ c.args.out.now c.change_at.new.out
          (λ made is. (is.0, (_, c.in_ok-names.ensures.leads, is.1))) (λ why is. is) (λ kept. kept) c.in_ok-ended.ended
          c.in_ok-ended.ensures.run,
    )
