-- What isn't there is known, or that is why nothing was printed.
use Rattle.std.proofs.Common.{Err, ap, inr, refl, subst, sym, ◌∙◌}
use Rattle.std.proofs.lemmas.Result.{err_from_is_err_and}
use Rattle.command_faults.specs.declared.faults.CommandFault.TheVariants as faults
use Rattle.disk_pictures.specs.Missing.{IsMissing}
use Rattle.image_looks.proofs.Reported.{memory-why, missing-size, missing-why}
use Rattle.image_looks.proofs.reporting.report_image.Goals as goal

pub returns-in_err-lines : goal.returns-in_err-lines
returns-in_err-lines g c =
    let p = err_from_is_err_and c.from_residual.result c.from_residual.ensures.1 in
    inr (
      c.in_err-lines.field-0.0,
      p.1 ∙ ap Err p.2,
      missing-why c.args.report c.args.image.now _ c.in_err-lines.ensures.err,
      λ _. refl,
    )

pub returns-in_err-maps : goal.returns-in_err-maps
returns-in_err-maps g c =
    let p = err_from_is_err_and c.from_residual-in_err-maps.result c.from_residual-in_err-maps.ensures.1 in
    inr (
      faults.NoMemory,
      p.1 ∙ ap Err (p.2 ∙ c.in_err-maps.ensures.err),
      memory-why c.args.report c.args.image.now (missing-size c.args.image.now _ c.in_ok-lines.ensures.ok),
      λ _. refl,
    )

pub report_with-requires : goal.report_with-requires
report_with-requires g c = record {
  missing = subst (IsMissing c.args.image.now) (sym c.as_slice.ensures.value) c.in_ok-lines.ensures.ok;
  maps = c.as_slice-2.ensures.value ∙ c.in_ok-maps.ensures.ok;
}
