-- What isn't on the disks is known, or that is why nothing was printed.
use Rattle.std.proofs.Common.{Err, ap, inr, refl, subst, sym, ◌∙◌}
use Rattle.std.proofs.lemmas.Result.{err_from_is_err_and}
use Rattle.image_looks.specs.Comparisons.{AreBothMissing}
use Rattle.image_looks.proofs.comparisons.comparing_run.Goals as goal

pub returns-in_err-lines : goal.returns-in_err-lines
returns-in_err-lines g c =
    let p = err_from_is_err_and c.from_residual.result c.from_residual.ensures.1 in
    inr (c.in_err-lines.field-0.0, p.1 ∙ ap Err p.2, c.in_err-lines.ensures.err, λ _. refl)

pub compare_with-requires : goal.compare_with-requires
compare_with-requires g c =
    subst (AreBothMissing c.args.before.now c.args.after.now) (sym c.as_slice.ensures.value) c.in_ok-lines.ensures.ok
