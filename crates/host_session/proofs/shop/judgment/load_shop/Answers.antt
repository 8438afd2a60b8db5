-- The two files, the tills' cards, the items' cards: nothing is written in between.
mod Refused
use Rattle.std.proofs.Common.{Err, ap, arith, ◌∙◌}
use Rattle.std.proofs.lemmas.Result.{err_from_is_err_and}
use Rattle.d64_image.proofs.Moments.{reads_then}
use Rattle.host_session.proofs.lemmas.judging.JudgedTills.{given-fits, judged-tills, ledger-judged}
use Rattle.host_session.proofs.lemmas.judging.Judgments.{files-still, judged-error, refused-error}
use Rattle.host_session.proofs.shop.judgment.load_shop.Goals as goal
use Rattle.host_session.proofs.shop.judgment.load_shop.Answers.Refused as refused

pub returns-in_err-files : goal.returns-in_err-files
returns-in_err-files = refused.returns-in_err-files

pub returns-in_err-tills : goal.returns-in_err-tills
returns-in_err-tills = refused.returns-in_err-tills

pub judge_tills-requires-clause-of : goal.judge_tills-requires-clause-of
judge_tills-requires-clause-of g c =
    let S = g.D.Sectors.history in
    let (f, a) = c.in_ok-files.ensures.ok in (
      f,
      files-still (S.image c.args.disk.now) (S.image c.find_files.new.disk) f c.in_ok-files.files
          c.find_files.ensures.reads.image a,
    )

pub given_by-requires : goal.given_by-requires
given_by-requires g c =
    let S = g.D.Sectors.history in
    let (f, a) = c.in_ok-files.ensures.ok in
    let one = files-still (S.image c.args.disk.now) (S.image c.find_files.new.disk) f c.in_ok-files.files
    c.find_files.ensures.reads.image a in
    let (tills, intent) = c.in_ok-tills.ensures.ok f one in
    given-fits f c.in_ok-tills.tills c.judge_tills.new.requests tills c.in_ok-tills.intent intent

pub read_stock-requires : goal.read_stock-requires
read_stock-requires g c =
    let S = g.D.Sectors.history in
    let (f, a) = c.in_ok-files.ensures.ok in
    let one = files-still (S.image c.args.disk.now) (S.image c.find_files.new.disk) f c.in_ok-files.files
    c.find_files.ensures.reads.image a in
    let two = files-still (S.image c.find_files.new.disk) (S.image c.judge_tills.new.disk) f c.in_ok-files.files
    c.judge_tills.ensures.reads.image one in
    let (tills, intent) = c.in_ok-tills.ensures.ok f one in
    record {
      of = (
        f,
        two,
        judged-tills f c.in_ok-tills.tills c.judge_tills.new.requests tills c.in_ok-tills.intent intent
            c.given_by.result c.given_by.ensures,
      );
      none = c.requires.nothing.cards;
    }

pub returns-in_err-read_stock : goal.returns-in_err-read_stock
returns-in_err-read_stock g c =
    let S = g.D.Sectors.history in
    let p = err_from_is_err_and c.from_residual-in_err-read_stock.result c.from_residual-in_err-read_stock.ensures.1 in
    let told = p.1 ∙ ap Err p.2 in
    let same = c.in_ok-tills.ensures.failures ∙ c.in_ok-files.ensures.failures in record {
      ok = rw p.1 tt;
      err = refused-error S c.args.disk.now c.judge_tills.new.disk c.read_stock.new.disk c.in_err-read_stock.field-0.0
          c.from_residual-in_err-read_stock.result told
          (c.judge_tills.ensures.reads.image ∙ c.find_files.ensures.reads.image) same c.in_err-read_stock.ensures.err;
      reads = reads_then S c.args.disk.now c.judge_tills.new.disk c.read_stock.new.disk 3710 30480 34190 (omega arith)
          (reads_then S c.args.disk.now c.find_files.new.disk c.judge_tills.new.disk 3518 192 3710 (omega arith)
          c.find_files.ensures.reads c.judge_tills.ensures.reads) c.read_stock.ensures.reads;
      failures = judged-error (Unit {0}) S c.args.disk.now c.judge_tills.new.disk c.read_stock.new.disk
          c.in_err-read_stock.field-0.0 c.from_residual-in_err-read_stock.result told
          same c.in_err-read_stock.ensures.failures;
    }

pub returns : goal.returns
returns g c =
    let S = g.D.Sectors.history in
    let (f, a) = c.in_ok-files.ensures.ok in
    let one = files-still (S.image c.args.disk.now) (S.image c.find_files.new.disk) f c.in_ok-files.files
    c.find_files.ensures.reads.image a in
    let two = files-still (S.image c.find_files.new.disk) (S.image c.judge_tills.new.disk) f c.in_ok-files.files
    c.judge_tills.ensures.reads.image one in
    let (tills, intent) = c.in_ok-tills.ensures.ok f one in
    let judged = judged-tills f c.in_ok-tills.tills c.judge_tills.new.requests tills c.in_ok-tills.intent intent
    c.given_by.result c.given_by.ensures in
    let cards = c.in_ok-read_stock.ensures.ok f two judged in record {
      ok = (
        f,
        a.has,
        record {
          records = ledger-judged f c.in_ok-tills.tills c.judge_tills.new.requests tills _ c.given_by.result judged
              cards;
          top = a.top_is;
          tills = tills.count;
          requests = tills.table;
          cards = cards.quantities;
          intent = intent;
        },
      );
      err = tt;
      reads = reads_then S c.args.disk.now c.judge_tills.new.disk c.read_stock.new.disk 3710 30480 34190 (omega arith)
          (reads_then S c.args.disk.now c.find_files.new.disk c.judge_tills.new.disk 3518 192 3710 (omega arith)
          c.find_files.ensures.reads c.judge_tills.ensures.reads) c.read_stock.ensures.reads;
      failures = c.in_ok-read_stock.ensures.failures ∙ c.in_ok-tills.ensures.failures ∙ c.in_ok-files.ensures.failures;
    }
