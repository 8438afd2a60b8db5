-- What was compared is the bytes that the host says.
use Rattle.std.proofs.Common.{◌∙◌, Err, ap}
use Rattle.std.proofs.lemmas.Result.{err_from_is_err_and}
use Rattle.image_looks.proofs.Looked.{unbegun}
use Rattle.std.specs.Prelude.{vec_items}
use Rattle.image_looks.specs.Comparisons.{IsComparingRun}
use Rattle.opened_files.proofs.HostFiles.{over-images}
use Rattle.opened_files.specs.declared.extents.Extent.TheVariants.{Whole}
use Rattle.image_looks.proofs.comparisons.do_comparing.Goals as goal

pub returns : goal.returns
returns g c =
    over-images g.R.HostFiles.rights g.R.HostFiles.stands c.args.rt.now c.args.before.now c.args.after.now
    c.args.out.now c.comparing_run.new.out c.comparing_run.result
    (vec_items c.in_ok-first.first) (vec_items c.in_ok-second.second) c.as_slice.result.now c.as_slice-2.result.now
    Whole
    (λ first second. IsComparingRun g.W.Write.contents c.args.before.now first c.args.after.now second c.args.out.now
    c.comparing_run.new.out c.comparing_run.result)
    c.in_ok-first.ensures.read c.in_ok-second.ensures.read c.as_slice.ensures.value c.as_slice-2.ensures.value
    c.comparing_run.ensures

pub returns-in_err-first : goal.returns-in_err-first
returns-in_err-first g c =
    let p = err_from_is_err_and c.from_residual.result c.from_residual.ensures.1 in
    λ named none one holds named_too none_too other holds_too. unbegun c.args.out.now c.from_residual.result c.in_err-first.field-0.0 _ (p.1 ∙ ap Err p.2) c.in_err-first.ensures.err

pub returns-in_err-second : goal.returns-in_err-second
returns-in_err-second g c =
    let p = err_from_is_err_and c.from_residual-in_err-second.result c.from_residual-in_err-second.ensures.1 in
    λ named none one holds named_too none_too other holds_too. unbegun c.args.out.now c.from_residual-in_err-second.result c.in_err-second.field-0.0 _ (p.1 ∙ ap Err p.2) c.in_err-second.ensures.err
