-- What the files or the tills' cards are refused for.
use Rattle.std.proofs.Common.{ℕ, Err, Option, ap, arith, refl, ◌∙◌}
use Rattle.std.proofs.lemmas.Result.{err_from_is_err_and}
use Rattle.d64_image.proofs.Moments.{reads_then, reads_weaker}
use Rattle.host_session.proofs.lemmas.judging.Judgments.{judged-error, refused-error}
use Rattle.host_session.specs.declared.shop.files.LedgerFiles.{LedgerFiles}
use Rattle.host_session.specs.declared.shop.intents.Intent.{Intent}
use Rattle.host_session.proofs.shop.judgment.load_shop.Goals as goal

pub returns-in_err-files : goal.returns-in_err-files
returns-in_err-files g c =
    let S = g.D.Sectors.history in
    let p = err_from_is_err_and c.from_residual.result c.from_residual.ensures.1 in
    let told = p.1 ∙ ap Err p.2 in record {
      ok = rw p.1 tt;
      err = refused-error S c.args.disk.now c.args.disk.now c.find_files.new.disk c.in_err-files.field-0.0
          c.from_residual.result told refl refl c.in_err-files.ensures.err;
      reads = reads_weaker S c.args.disk.now c.find_files.new.disk 3518 34190 (omega arith) c.find_files.ensures.reads;
      failures = judged-error LedgerFiles S c.args.disk.now c.args.disk.now c.find_files.new.disk
          c.in_err-files.field-0.0 c.from_residual.result told refl c.in_err-files.ensures.failures;
    }

pub returns-in_err-tills : goal.returns-in_err-tills
returns-in_err-tills g c =
    let S = g.D.Sectors.history in
    let p = err_from_is_err_and c.from_residual-in_err-tills.result c.from_residual-in_err-tills.ensures.1 in
    let told = p.1 ∙ ap Err p.2 in record {
      ok = rw p.1 tt;
      err = refused-error S c.args.disk.now c.find_files.new.disk c.judge_tills.new.disk c.in_err-tills.field-0.0
          c.from_residual-in_err-tills.result told
          c.find_files.ensures.reads.image c.in_ok-files.ensures.failures c.in_err-tills.ensures.err;
      reads = reads_then S c.args.disk.now c.find_files.new.disk c.judge_tills.new.disk 3518 192 34190 (omega arith)
          c.find_files.ensures.reads c.judge_tills.ensures.reads;
      failures = judged-error (ℕ × Option Intent) S c.args.disk.now c.find_files.new.disk c.judge_tills.new.disk
          c.in_err-tills.field-0.0 c.from_residual-in_err-tills.result told
          c.in_ok-files.ensures.failures c.in_err-tills.ensures.failures;
    }
