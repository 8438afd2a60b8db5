-- The survey's layout is that of each call: nothing is written. STOCK is judged before REQUESTS.
mod Refused
use Rattle.std.proofs.Common.{arith, ◌∙◌}
use Rattle.std.specs.Prelude.{codes}
use Rattle.d64_image.proofs.Moments.{reads_then}
use Rattle.host_session.proofs.lemmas.judging.Search.{files-found, has-file, lacks-none, named-some}
use Rattle.host_session.proofs.lemmas.judging.Search.{top-at}
use Rattle.host_session.proofs.shop.files.find_files.Goals as goal
use Rattle.host_session.proofs.shop.files.find_files.Answers.Refused as refused

pub returns-in_err-found : goal.returns-in_err-found
returns-in_err-found = refused.returns-in_err-found

pub returns-in_err-stock : goal.returns-in_err-stock
returns-in_err-stock = refused.returns-in_err-stock

pub returns-in_default : goal.returns-in_default
returns-in_default g c =
    let S = g.D.Sectors.history in record {
      ok = tt;
      err = lacks-none (S.image c.args.disk.now) (S.image c.survey_disk.new.disk) (codes "STOCK") 18
          c.in_ok-stock.field-0 c.survey_disk.ensures.reads.image c.in_default.not-Some c.in_ok-stock.ensures.lacks;
      reads = reads_then S c.args.disk.now c.survey_disk.new.disk c.find_shop_file.new.disk 2114 702 3518 (omega arith)
          c.survey_disk.ensures.reads c.find_shop_file.ensures.reads;
      failures = c.in_ok-stock.ensures.failures ∙ c.in_ok-found.ensures.failures;
    }

pub returns-in_err-requests : goal.returns-in_err-requests
returns-in_err-requests = refused.returns-in_err-requests

pub returns-in_default-2 : goal.returns-in_default-2
returns-in_default-2 g c =
    let S = g.D.Sectors.history in
    let old = S.image c.args.disk.now in
    let (l, h, _) = c.in_ok-found.ensures.ok in
    let one = c.survey_disk.ensures.reads.image in
    let two = c.find_shop_file.ensures.reads.image ∙ one in record {
      ok = tt;
      err = (
        has-file old l (codes "STOCK") 18 c.in-Some.stock h
            (named-some old (S.image c.survey_disk.new.disk) l (codes "STOCK") 18 c.in_ok-stock.field-0 c.in-Some.stock
            one c.in-Some.is h c.in_ok-stock.ensures.found),
        lacks-none old (S.image c.find_shop_file.new.disk) (codes "REQUESTS") 127 c.in_ok-requests.field-0 two
            c.in_default-2.not-Some c.in_ok-requests.ensures.lacks,
      );
      reads = reads_then S c.args.disk.now c.find_shop_file.new.disk c.find_shop_file-2.new.disk 2816 702 3518
          (omega arith)
          (reads_then S c.args.disk.now c.survey_disk.new.disk c.find_shop_file.new.disk 2114 702 2816 (omega arith)
          c.survey_disk.ensures.reads c.find_shop_file.ensures.reads)
          c.find_shop_file-2.ensures.reads;
      failures = c.in_ok-requests.ensures.failures ∙ c.in_ok-stock.ensures.failures ∙ c.in_ok-found.ensures.failures;
    }

pub returns : goal.returns
returns g c =
    let S = g.D.Sectors.history in
    let old = S.image c.args.disk.now in
    let (l, h, told) = c.in_ok-found.ensures.ok in
    let one = c.survey_disk.ensures.reads.image in
    let two = c.find_shop_file.ensures.reads.image ∙ one in
    let stock = named-some old (S.image c.survey_disk.new.disk) l (codes "STOCK") 18 c.in_ok-stock.field-0
    c.in-Some.stock one c.in-Some.is h c.in_ok-stock.ensures.found in
    let requests = named-some old (S.image c.find_shop_file.new.disk) l (codes "REQUESTS") 127 c.in_ok-requests.field-0
    c.in-Some-2.requests two c.in-Some-2.is h c.in_ok-requests.ensures.found in record {
      ok = files-found old l (record {
        stock = c.in-Some.stock;
        requests = c.in-Some-2.requests;
        top =
            c.top_of-top.result;
      }) h stock requests
          (top-at l c.in-Some.stock c.entry.result c.top_of-top.result c.entry.ensures (c.top_of-top.ensures l told));
      err = tt;
      reads = reads_then S c.args.disk.now c.find_shop_file.new.disk c.find_shop_file-2.new.disk 2816 702 3518
          (omega arith)
          (reads_then S c.args.disk.now c.survey_disk.new.disk c.find_shop_file.new.disk 2114 702 2816 (omega arith)
          c.survey_disk.ensures.reads c.find_shop_file.ensures.reads)
          c.find_shop_file-2.ensures.reads;
      failures = c.in_ok-requests.ensures.failures ∙ c.in_ok-stock.ensures.failures ∙ c.in_ok-found.ensures.failures;
    }
