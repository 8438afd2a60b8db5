-- What was read is judged: a fault is the reading's or the judgment's own.
use Rattle.std.proofs.Common.{ap, inl, length, sym, ◌∙◌}
use Rattle.std.proofs.lemmas.Result.{err_from_is_err_and}
use Rattle.request_cards.proofs.CardReading.{card_is}
use Rattle.request_cards.specs.CardReading.{request_card_of}
use Rattle.host_session.specs.declared.faults.OpenFault.TheVariants.{BadRequestCard}
use Rattle.host_session.specs.declared.shop.record_content.RecordContent.TheVariants as contents
use Rattle.host_session.proofs.lemmas.judging.Judgments.{judged-own, own-fault}
use Rattle.host_session.proofs.lemmas.judging.TillTables.{told-some}
use Rattle.host_session.proofs.shop.judgment.judge_till.Goals as goal

pub judged_till-requires-clause-fits : goal.judged_till-requires-clause-fits
judged_till-requires-clause-fits g c = λ card e.
    let (f, a) = c.requires.of in
    let (bytes, here, told) = told-some request_card_of 127 f.requests c.args.till c.in_ok-read.read
    (contents.Card card) e (c.in_ok-read.ensures.ok f a) in
    ((card_is bytes card).0 told).0

pub returns-in_err-read : goal.returns-in_err-read
returns-in_err-read g c =
    let e = err_from_is_err_and c.from_residual.result c.from_residual.ensures.1 in
    let read = c.in_err-read.ensures in
    record {
      ok = rw e.1 (λ f a. tt);
      err = rw e.1 (λ f a. inl (e.2 ∙ read.err f a));
      kept = read.kept;
      reads = read.reads;
      failures = rw (e.1, e.2) read.failures;
    }

pub returns : goal.returns
returns g c =
    let read = c.in_ok-read.ensures in
    let judged = c.judged_till.ensures in
    record {
      ok = λ f a.
          let many = c.records.ensures.exact (g.D.Sectors.history.image c.args.disk.now) a.has.layout a.has.stock_place
          a.has.stock_file a.stock_of ∙ ap length (sym a.has.stock) in
          judged.ok f (read.ok f a) many;
      err = λ f a.
          let many = c.records.ensures.exact (g.D.Sectors.history.image c.args.disk.now) a.has.layout a.has.stock_place
          a.has.stock_file a.stock_of ∙ ap length (sym a.has.stock) in
          own-fault c.judged_till.result _ _ judged.fault (judged.bad f (read.ok f a) many);
      kept = read.kept;
      reads = read.reads;
      failures = judged-own g.D.Sectors.history c.args.disk.now _ c.judged_till.result (BadRequestCard c.args.till)
          judged.fault read.failures read.failures;
    }
