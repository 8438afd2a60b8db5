-- The cards, whole, and then the answer: each image is the same shop's.
use Rattle.std.proofs.Common.{arith, refl}
use Rattle.std.proofs.lemmas.Result.{err_from_is_err_and}
use Rattle.host_session.proofs.lemmas.Held.{changes_weaker}
use Rattle.host_session.proofs.lemmas.writing.Selection.{told-after}
use Rattle.host_session.proofs.lemmas.writing.IntentAnswers.{completing-moments, completing-ok, till-there}
use Rattle.host_session.proofs.shop.completion.complete_with.Goals as goal

pub returns-in_err-write_results : goal.returns-in_err-write_results
returns-in_err-write_results g c =
    let e = err_from_is_err_and c.from_residual.result c.from_residual.ensures.1 in
    record {
      ready = rw e.1 tt;
      ok = rw e.1 (λ f p. tt);
      moments = λ f p.
          changes_weaker g.D.Sectors.history c.args.drive.now.disk c.write_results.new.drive.disk _ _ _ _ (omega arith)
          (λ i s. s) (c.write_results.ensures.moments f p);
      failures = rw e.1 c.in_err-write_results.ensures.failures;
      dies = rw e.1 (λ is. c.in_err-write_results.ensures.dies refl);
    }

pub write_answer-requires : goal.write_answer-requires
write_answer-requires g c =
    let (f, h, x) = c.requires.intent in
    let r = c.in_ok-write_results.ensures.ok f (h, x) in
    record {
      ready = c.in_ok-write_results.ensures.ready;
      there = (_, r.has, x.low, x.high, till-there f c.args.till c.args.card.now x);
      long = c.told-text;
    }

pub returns : goal.returns
returns g c = record {
  ready = c.write_answer.ensures.puts.ready;
  ok = λ f p.
      let r = c.in_ok-write_results.ensures.ok f p in
      completing-ok f c.args.till c.args.card.now p.1 _ r _ c.requires.text _ c.write_answer.result
      (c.write_answer.ensures.puts.ok _ r.has);
  moments = λ f p.
      let r = c.in_ok-write_results.ensures.ok f p in
      completing-moments f c.args.till c.args.card.now p.1 _ r _ c.requires.text
      g.D.Sectors.history c.args.drive.now.disk c.write_results.new.drive.disk c.write_answer.new.drive.disk _
      (c.write_results.ensures.moments f p) (c.write_answer.ensures.puts.moments _ r.has);
  failures = told-after g.D.Sectors.history c.args.drive.now.disk c.write_results.new.drive.disk
      c.write_answer.new.drive.disk c.write_answer.result c.in_ok-write_results.ensures.failures
      c.write_answer.ensures.puts.failures;
  dies = c.write_answer.ensures.puts.dies;
}
