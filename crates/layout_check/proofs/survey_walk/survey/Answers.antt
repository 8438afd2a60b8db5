-- What was found, without what was kept back.
use Rattle.std.proofs.Common.{ℕ, refl}
use Rattle.std.proofs.lemmas.Result.{err_from_is_err_and}
use Rattle.layout_check.proofs.lemmas.judging.Calls.{any_answer}
use Rattle.layout_check.proofs.lemmas.judging.Judged.{survey-passes}
use Rattle.layout_check.proofs.lemmas.finding.Progress.{told-sound}
use Rattle.layout_check.specs.declared.survey_outcome.Survey.{Survey}
use Rattle.layout_check.proofs.survey_walk.survey.Goals as goal

pub returns-in_err-found-clause-err : goal.returns-in_err-found-clause-err
returns-in_err-found-clause-err g c =
    let p = err_from_is_err_and c.from_residual.result c.from_residual.ensures.1 in
    rw (p.1, p.2) c.in_err-found.ensures.err.holds

pub returns-in_err-found-clause-sound : goal.returns-in_err-found-clause-sound
returns-in_err-found-clause-sound g c =
    let p = err_from_is_err_and c.from_residual.result c.from_residual.ensures.1 in
    rw p.1 (told-sound g.D.Sectors.history Survey c.args.disk.now c.survey_files.new.disk 2114 _
    c.in_err-found.ensures.err)

pub returns-in_err-found-clause-failures : goal.returns-in_err-found-clause-failures
returns-in_err-found-clause-failures g c =
    let p = err_from_is_err_and c.from_residual.result c.from_residual.ensures.1 in
    rw (p.1, p.2) (any_answer g.D.Sectors.history ℕ Survey c.args.disk.now c.survey_files.new.disk _
    c.in_err-found.ensures.err.failures)

pub returns-clause-ok : goal.returns-clause-ok
returns-clause-ok g c = let (l, is, of, judged, passes) = c.in_ok-found.ensures.ok in (l, is, of, passes.reads)

pub returns-clause-sound : goal.returns-clause-sound
returns-clause-sound g c never = (λ _. let l = returns-clause-ok g c in (l.0, l.1), λ _. refl)

pub returns-clause-failures : goal.returns-clause-failures
returns-clause-failures g c = let all = survey-passes g.D.Sectors.history c.args.disk.now c.survey_files.new.disk
    c.in_ok-found.found c.in_ok-found.ensures.ok in all.failures

pub returns-clause-reads : goal.returns-clause-reads
returns-clause-reads g c = let all = survey-passes g.D.Sectors.history c.args.disk.now c.survey_files.new.disk
    c.in_ok-found.found c.in_ok-found.ensures.ok in all.reads
