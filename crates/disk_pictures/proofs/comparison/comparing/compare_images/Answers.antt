-- If the output failed, the first image could be drawn.
use Rattle.std.proofs.Common.{Err, ap, inl, ◌∙◌}
use Rattle.std.proofs.lemmas.Result.{err_from_is_err_and}
use Rattle.disk_pictures.proofs.comparison.comparing.compare_images.Goals as goal

pub returns-in_err-print_comparison-clause-err : goal.returns-in_err-print_comparison-clause-err
returns-in_err-print_comparison-clause-err g c =
    let r = c.from_residual-in_err-print_comparison in
    let p = err_from_is_err_and r.result r.ensures.1 in
    let told = p.1 ∙ ap Err (p.2 ∙ c.in_err-print_comparison.ensures.err) in
    rw told (inl (_, _, c.in_ok-first.ensures.ok.judged))
