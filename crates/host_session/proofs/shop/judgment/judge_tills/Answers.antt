-- Two open intents of the table are two of the disk.
use Rattle.std.proofs.Common.{ℕ, Err, IfErr, Option, Result, ap, subst, sym, ◌∙◌}
use Rattle.std.proofs.lemmas.Result.{err_from_is_err_and}
use Rattle.d64_image.specs.History.{Failed}
use Rattle.host_session.specs.session.Opening.{Refuses, TellsJudging}
use Rattle.host_session.specs.declared.faults.OpenFault.{OpenFault}
use Rattle.host_session.specs.declared.shop.intents.Intent.{Intent}
use Rattle.host_session.proofs.lemmas.judging.JudgedTills.{no-bad_till, two-open}
use Rattle.host_session.proofs.shop.judgment.judge_tills.Goals as goal

pub returns-in_err-intent-clause-err : goal.returns-in_err-intent-clause-err
returns-in_err-intent-clause-err g c =
    let S = g.D.Sectors.history in
    let old = S.image c.args.disk.now in
    let (f, a) = c.requires.of in
    let tills = c.in_ok-count.ensures.ok f a in
    let p = err_from_is_err_and c.from_residual-in_err-intent.result c.from_residual-in_err-intent.ensures.1 in
    let (e, two) = c.in_err-intent.ensures.err in
    subst (λ (r : Result (ℕ × Option Intent) OpenFault). IfErr r
    (Refuses (Failed S c.args.disk.now c.read_tills.new.disk) old)) (sym (p.1 ∙ ap Err (p.2 ∙ e))) (
      f,
      a.has,
      no-bad_till f c.in_ok-count.count c.read_tills.new.requests tills,
      two-open f c.in_ok-count.count
          c.read_tills.new.requests tills two,
    )

pub returns-in_err-intent-clause-failures : goal.returns-in_err-intent-clause-failures
returns-in_err-intent-clause-failures g c =
    let S = g.D.Sectors.history in
    let p = err_from_is_err_and c.from_residual-in_err-intent.result c.from_residual-in_err-intent.ensures.1 in
    let (e, two) = c.in_err-intent.ensures.err in
    subst (λ (r : Result (ℕ × Option Intent) OpenFault). TellsJudging S c.args.disk.now c.read_tills.new.disk r)
    (sym (p.1 ∙ ap Err (p.2 ∙ e))) c.in_ok-count.ensures.failures

pub returns-clause-ok : goal.returns-clause-ok
returns-clause-ok g c = λ f a. (c.in_ok-count.ensures.ok f a, c.in_ok-intent.ensures.ok)
