-- The tracks are the image's, and what is drawn is theirs.
use Rattle.std.proofs.Common.{Err, ap, ◌∙◌}
use Rattle.std.proofs.lemmas.Result.{IfOk-weaker, err_from_is_err_and}
use Rattle.disk_pictures.proofs.lemmas.views.Trimmed.{trimmed-drawn, trimmed-unread}
use Rattle.disk_pictures.specs.Held.{drawn_in}
use Rattle.disk_pictures.proofs.views.trimming.trim_image.Goals as goal

pub returns-in_err-print_tracks-clause-err : goal.returns-in_err-print_tracks-clause-err
returns-in_err-print_tracks-clause-err g c =
    let p = err_from_is_err_and c.from_residual-in_err-print_tracks.result c.from_residual-in_err-print_tracks.ensures.1 in
    rw (p.1 ∙ ap Err (p.2 ∙ c.in_err-print_tracks.ensures.err)) c.in-Some.ensures.0

pub returns-in-Ok-clause-ok : goal.returns-in-Ok-clause-ok
returns-in-Ok-clause-ok g c =
    let tracks = c.in-Some.ensures in
    let drawn = rw c.in-Ok.is at c.in_ok-drawn.ensures.ok in
    IfOk-weaker c.report.result _ _ (λ whole told. trimmed-drawn g.W.Write.contents g.E.Write.contents c.args.image.now
    c.in-Some.tracks.now c.args.out.now c.print_tracks.new.out c.args.err.now c.report.new.err tracks.0 tracks.1
    c.in_ok-print_tracks.ensures.ok (drawn_in c.in-Ok.drawing) whole drawn told.0 told.1) c.report.ensures.ok

pub returns-clause-ok : goal.returns-clause-ok
returns-clause-ok g c =
    let tracks = c.in-Some.ensures in
    let holds = rw c.in-Err.is at c.in_ok-drawn.ensures.ok in
    IfOk-weaker c.report_unread.result _ _ (λ whole told. trimmed-unread g.W.Write.contents g.E.Write.contents
    c.args.image.now c.in-Some.tracks.now c.args.out.now c.print_tracks.new.out c.args.err.now c.report_unread.new.err
    tracks.0 tracks.1 c.in_ok-print_tracks.ensures.ok c.in-Err.fault whole holds told.0 told.1) c.report_unread.ensures.ok
