-- A file that isn't there, and a device that failed.
use Rattle.std.proofs.Common.{Err, ap, arith, refl, ◌∙◌}
use Rattle.std.proofs.lemmas.Result.{err_from_is_err_and}
use Rattle.d64_image.proofs.Moments.{reads_then, reads_weaker}
use Rattle.layout_check.specs.declared.survey_outcome.Survey.{Survey}
use Rattle.host_session.proofs.lemmas.judging.Judgments.{device-error, judged-error, refused-error}
use Rattle.host_session.proofs.shop.files.find_files.Goals as goal

pub returns-in_err-found : goal.returns-in_err-found
returns-in_err-found g c =
    let S = g.D.Sectors.history in
    let p = err_from_is_err_and c.from_residual.result c.from_residual.ensures.1 in
    let told = p.1 ∙ ap Err p.2 in record {
      ok = rw p.1 tt;
      err = refused-error S c.args.disk.now c.args.disk.now c.survey_disk.new.disk c.in_err-found.field-0.0
          c.from_residual.result told refl refl c.in_err-found.ensures.err;
      reads = reads_weaker S c.args.disk.now c.survey_disk.new.disk 2114 3518 (omega arith) c.survey_disk.ensures.reads;
      failures = judged-error Survey S c.args.disk.now c.args.disk.now c.survey_disk.new.disk c.in_err-found.field-0.0
          c.from_residual.result told refl c.in_err-found.ensures.failures;
    }

pub returns-in_err-stock : goal.returns-in_err-stock
returns-in_err-stock g c =
    let S = g.D.Sectors.history in
    let p = err_from_is_err_and c.from_residual-in_err-stock.result c.from_residual-in_err-stock.ensures.1 in
    let told = device-error S (S.image c.args.disk.now) c.args.disk.now c.survey_disk.new.disk c.find_shop_file.new.disk
    c.in_err-stock.field-0.0 c.from_residual-in_err-stock.result
    (p.1 ∙ ap Err p.2) c.in_err-stock.ensures.err c.in_ok-found.ensures.failures c.in_err-stock.ensures.failures in
    record {
      ok = rw p.1 tt;
      err = told.0;
      reads = reads_then S c.args.disk.now c.survey_disk.new.disk c.find_shop_file.new.disk 2114 702 3518 (omega arith)
          c.survey_disk.ensures.reads c.find_shop_file.ensures.reads;
      failures = told.1;
    }

pub returns-in_err-requests : goal.returns-in_err-requests
returns-in_err-requests g c =
    let S = g.D.Sectors.history in
    let p = err_from_is_err_and c.from_residual-in_err-requests.result c.from_residual-in_err-requests.ensures.1 in
    let told = device-error S (S.image c.args.disk.now) c.args.disk.now c.find_shop_file.new.disk
    c.find_shop_file-2.new.disk c.in_err-requests.field-0.0 c.from_residual-in_err-requests.result
    (p.1 ∙ ap Err p.2) c.in_err-requests.ensures.err (c.in_ok-stock.ensures.failures ∙ c.in_ok-found.ensures.failures)
    c.in_err-requests.ensures.failures in record {
      ok = rw p.1 tt;
      err = told.0;
      reads = reads_then S c.args.disk.now c.find_shop_file.new.disk c.find_shop_file-2.new.disk 2816 702 3518
          (omega arith)
          (reads_then S c.args.disk.now c.survey_disk.new.disk c.find_shop_file.new.disk 2114 702 2816 (omega arith)
          c.survey_disk.ensures.reads c.find_shop_file.ensures.reads)
          c.find_shop_file-2.ensures.reads;
      failures = told.1;
    }
