-- The lines of the sectors and how it ends are all that is printed of a repair.
use Rattle.std.proofs.Common.{Err, ap, ◌∙◌}
use Rattle.std.proofs.lemmas.Result.{err_from_is_err_and}
use Rattle.d64_image.proofs.Told.{at-ok}
use Rattle.disk_changes.proofs.lemmas.mended.Mendings.{all-printed, part-end, part-tracks, tells-output}
use Rattle.command_faults.proofs.Parts.{at-error, part-all}
use Rattle.disk_changes.proofs.mended.mending.print_mended.Goals as goal

pub returns-in_err-print_changed-clause-part : goal.returns-in_err-print_changed-clause-part
returns-in_err-print_changed-clause-part g c =
    let p = err_from_is_err_and c.from_residual.result c.from_residual.ensures.1 in
    rw (p.1 ∙ ap Err p.2) (part-tracks _ _ _ _ _ c.in_err-print_changed.ensures.part)

pub returns-in_err-print_kept-clause-part : goal.returns-in_err-print_kept-clause-part
returns-in_err-print_kept-clause-part g c =
    let p = err_from_is_err_and c.from_residual-in_err-print_kept.result c.from_residual-in_err-print_kept.ensures.1 in
    rw (p.1 ∙ ap Err p.2) (part-end _ _ _ _ _ _ c.in_ok-print_changed.ensures.ok c.in_err-print_kept.ensures.part)

pub returns-clause-ok : goal.returns-clause-ok
returns-clause-ok g c = at-ok c.flush.result (all-printed _ _ _ _ _ _ _ c.in_ok-print_changed.ensures.ok
    c.in_ok-print_kept.ensures.ok c.flush.ensures.kept)

pub returns-clause-part : goal.returns-clause-part
returns-clause-part g c = at-error c.flush.result (part-all _ _ _ (all-printed _ _ _ _ _ _ _
    c.in_ok-print_changed.ensures.ok c.in_ok-print_kept.ensures.ok c.flush.ensures.kept))

pub returns-clause-told : goal.returns-clause-told
returns-clause-told g c = tells-output g.D.Sectors.history _ _ c.flush.result c.in_ok-print_changed.ensures.told
    c.flush.ensures.err
