-- What isn't on the disk is known, or the image isn't drawn either.
use Rattle.std.proofs.Common.{ap, subst, sym, ◌∙◌}
use Rattle.std.proofs.lemmas.Result.{err_from_is_err_and}
use Rattle.image_looks.proofs.Reported.{memory-why, missing-size, missing-why}
use Rattle.image_looks.specs.declared.reporting.Report.TheVariants.{Picture}
use Rattle.image_looks.proofs.comparisons.add_missing.Goals as goal

pub returns-in_err-missing-clause-err : goal.returns-in_err-missing-clause-err
returns-in_err-missing-clause-err c =
    let p = err_from_is_err_and c.from_residual.result c.from_residual.ensures.1 in
    rw (p.1, p.2) (missing-why Picture c.args.image.now _ c.in_err-missing.ensures.err)

pub returns-in_default-clause-err : goal.returns-in_default-clause-err
returns-in_default-clause-err c =
    memory-why Picture c.args.image.now (missing-size c.args.image.now _ c.in_ok-missing.ensures.ok)

pub returns-then-is_err-clause-err : goal.returns-then-is_err-clause-err
returns-then-is_err-clause-err c =
    memory-why Picture c.args.image.now (missing-size c.args.image.now _ c.in_ok-missing.ensures.ok)
