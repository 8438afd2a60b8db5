-- What was read is judged: a fault is the reading's or the judgment's own.
use Rattle.std.proofs.Common.{inl, ◌∙◌}
use Rattle.std.proofs.lemmas.Result.{err_from_is_err_and}
use Rattle.host_session.specs.declared.faults.OpenFault.TheVariants.{BadCard}
use Rattle.host_session.proofs.lemmas.judging.Judgments.{judged-own, own-fault}
use Rattle.host_session.proofs.shop.judgment.judge_item.Goals as goal

pub returns-in_err-read : goal.returns-in_err-read
returns-in_err-read g c =
    let e = err_from_is_err_and c.from_residual.result c.from_residual.ensures.1 in
    let read = c.in_err-read.ensures in
    record {
      ok = rw e.1 (λ f p. tt);
      err = rw e.1 (λ f p. inl (e.2 ∙ read.err f p.0));
      kept = read.kept;
      reads = read.reads;
      failures = rw (e.1, e.2) read.failures;
    }

pub returns : goal.returns
returns g c =
    let read = c.in_ok-read.ensures in
    let judged = c.judged_item.ensures in
    record {
      ok = λ f p. judged.ok f p.1 (read.ok f p.0);
      err = λ f p. own-fault c.judged_item.result _ _ judged.fault (judged.bad f p.1 (read.ok f p.0));
      kept = read.kept;
      reads = read.reads;
      failures = judged-own g.D.Sectors.history c.args.disk.now _ c.judged_item.result (BadCard c.args.item) judged.fault
          read.failures read.failures;
    }
