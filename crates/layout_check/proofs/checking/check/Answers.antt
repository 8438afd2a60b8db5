-- The survey, what it kept back, then the map; a fault on the way is told, and holds.
use Rattle.std.proofs.Common.{ℕ, arith, refl, ◌∙◌}
use Rattle.std.proofs.lemmas.Result.{err_from_is_err_and}
use Rattle.d64_image.proofs.Moments.{reads_weaker}
use Rattle.layout_check.proofs.lemmas.judging.Calls.{any_answer, passes_then}
use Rattle.layout_check.proofs.lemmas.judging.Inexact.{clean_tells, clean_then}
use Rattle.layout_check.proofs.lemmas.judging.Judged.{kept-tells, survey-passes}
use Rattle.layout_check.proofs.lemmas.judging.Verdict.{clean-layout, map-at, survey-told, told-clean}
use Rattle.layout_check.specs.declared.survey_outcome.Survey.{Survey}
use Rattle.layout_check.proofs.checking.check.Goals as goal

pub returns-in_err-found-clause-err : goal.returns-in_err-found-clause-err
returns-in_err-found-clause-err g c =
    let p = err_from_is_err_and c.from_residual.result c.from_residual.ensures.1 in
    let tells = clean_tells g.D.Sectors.history c.args.disk.now c.survey_files.new.disk 2114 _
    c.in_err-found.ensures.err in
    rw (p.1, p.2) tells.holds

pub returns-in_err-found-clause-clean : goal.returns-in_err-found-clause-clean
returns-in_err-found-clause-clean g c =
    let p = err_from_is_err_and c.from_residual.result c.from_residual.ensures.1 in
    rw p.1 (told-clean g.D.Sectors.history Survey c.args.disk.now c.survey_files.new.disk 2114 _
    (clean_tells g.D.Sectors.history c.args.disk.now c.survey_files.new.disk 2114 _ c.in_err-found.ensures.err))

pub check_map-requires : goal.check_map-requires
check_map-requires g c = survey-told g.D.Sectors.history c.args.disk.now c.survey_files.new.disk c.in_ok-found.found
    c.in_ok-found.ensures.ok

pub returns-in-Some : goal.returns-in-Some
returns-in-Some g c = record {
  ok = tt;
  err = let tells = kept-tells g.D.Sectors.history c.args.disk.now c.survey_files.new.disk c.in_ok-found.found
      c.in-Some.fault c.in-Some.is c.in_ok-found.ensures.ok in
      tells.holds;
  clean = told-clean g.D.Sectors.history Survey c.args.disk.now c.survey_files.new.disk 2114 c.in-Some.fault
      (kept-tells g.D.Sectors.history c.args.disk.now c.survey_files.new.disk c.in_ok-found.found c.in-Some.fault
      c.in-Some.is c.in_ok-found.ensures.ok);
  failures = let tells = kept-tells g.D.Sectors.history c.args.disk.now c.survey_files.new.disk c.in_ok-found.found
      c.in-Some.fault c.in-Some.is c.in_ok-found.ensures.ok in
      any_answer g.D.Sectors.history ℕ Survey c.args.disk.now c.survey_files.new.disk c.in-Some.fault tells.failures;
  reads = let all = survey-passes g.D.Sectors.history c.args.disk.now c.survey_files.new.disk c.in_ok-found.found
      c.in_ok-found.ensures.ok in
      reads_weaker g.D.Sectors.history c.args.disk.now c.survey_files.new.disk 2114 2115 (omega arith) all.reads;
}

pub returns : goal.returns
returns g c =
    let S = g.D.Sectors.history in
    let all = survey-passes S c.args.disk.now c.survey_files.new.disk c.in_ok-found.found c.in_ok-found.ensures.ok in
    let l = clean-layout S c.args.disk.now c.survey_files.new.disk c.in_ok-found.found c.in_default.is
    c.in_ok-found.ensures.ok (map-at _ _ all.reads.image c.in_ok-check_map.ensures.map) in
    record {
      ok = l;
      err = tt;
      clean = λ never. (λ _. (l.0, l.1), λ _. refl);
      failures = c.in_ok-check_map.ensures.ok.failures ∙ all.failures;
      reads = (passes_then S c.args.disk.now c.survey_files.new.disk c.check_map.new.disk 2114 1 2115 (omega arith) all
          c.in_ok-check_map.ensures.ok).reads;
    }

pub returns-in_err-check_map : goal.returns-in_err-check_map
returns-in_err-check_map g c =
    let S = g.D.Sectors.history in
    let p = err_from_is_err_and c.from_residual-in_err-check_map.result c.from_residual-in_err-check_map.ensures.1 in
    let tells = clean_then S c.args.disk.now c.survey_files.new.disk c.check_map.new.disk 2114 1 2115 _ (omega arith)
    (survey-passes S c.args.disk.now c.survey_files.new.disk c.in_ok-found.found c.in_ok-found.ensures.ok)
    c.in_err-check_map.ensures.err in
    record {
      ok = rw p.1 tt;
      err = rw (p.1, p.2) tells.holds;
      clean = rw p.1 (told-clean S Survey c.args.disk.now c.check_map.new.disk 2115 _ tells);
      failures = rw (p.1, p.2) (any_answer S ℕ Survey c.args.disk.now c.check_map.new.disk _ tells.failures);
      reads = tells.reads;
    }
