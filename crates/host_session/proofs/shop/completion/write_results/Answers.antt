-- One card or two; whatever their records held, the open intent has their quantities already.
mod Asked
use Rattle.std.proofs.Common.{refl}
use Rattle.std.proofs.lemmas.Result.{err_from_is_err_and}
use Rattle.host_session.proofs.lemmas.writing.Completions.{done-fits, done-moments, done-ok, done-there, moved-half}
use Rattle.host_session.proofs.lemmas.writing.Completions.{moved-moments, moved-ok, some-results}
use Rattle.host_session.proofs.lemmas.writing.IntentAnswers.{done-of, intent-fits, moved-of, none-in, one-in, two-in}
use Rattle.host_session.proofs.lemmas.writing.Selection.{told-after}
use Rattle.host_session.proofs.shop.completion.write_results.Goals as goal
use Rattle.host_session.proofs.shop.completion.write_results.Answers.Asked as asked

pub new_quantities-new-requires-clause-fits : goal.new_quantities-new-requires-clause-fits
new_quantities-new-requires-clause-fits g c = let (f, h, x) = c.requires.intent in
    intent-fits f c.args.till c.args.card.now x

pub returns-in_default : goal.returns-in_default
returns-in_default g c =
    let (f, h, x) = c.requires.intent in
    absurd (some-results f c.args.till c.args.card.now x
    (none-in c.new_quantities-new.result _ c.new_quantities-new.ensures.value c.in_default.is
    c.new_quantities-new.ensures.order))

pub write_quantity-requires-clause-there : goal.write_quantity-requires-clause-there
write_quantity-requires-clause-there g c =
    let (f, h, x) = c.requires.intent in
    let (at, is) = done-of c.args.card.now.newest.body c.in-Some.item c.in-Some.quantity c.args.card.now.newest.answer
    (one-in c.new_quantities-new.result _ c.new_quantities-new.ensures.value _ c.in-Some.is c.in_default-second.is) in
    (f, h, done-there f c.args.till c.args.card.now x c.in-Some.item c.in-Some.quantity at is)

pub write_quantity-requires-clause-fits : goal.write_quantity-requires-clause-fits
write_quantity-requires-clause-fits g c =
    let (f, h, x) = c.requires.intent in
    let (at, is) = done-of c.args.card.now.newest.body c.in-Some.item c.in-Some.quantity c.args.card.now.newest.answer
    (one-in c.new_quantities-new.result _ c.new_quantities-new.ensures.value _ c.in-Some.is c.in_default-second.is) in
    done-fits f c.args.till c.args.card.now x c.in-Some.item c.in-Some.quantity at is

pub returns-in_default-second : goal.returns-in_default-second
returns-in_default-second g c =
    let (at, is) = done-of c.args.card.now.newest.body c.in-Some.item c.in-Some.quantity c.args.card.now.newest.answer
    (one-in c.new_quantities-new.result _ c.new_quantities-new.ensures.value _ c.in-Some.is c.in_default-second.is) in
    record {
      ready = c.write_quantity.ensures.ready;
      ok = λ f p. done-ok f c.args.till c.args.card.now p.1 c.in-Some.item c.in-Some.quantity at is _
          c.write_quantity.result (c.write_quantity.ensures.ok f p.0);
      moments = λ f p. done-moments f c.args.till c.args.card.now p.1 c.in-Some.item c.in-Some.quantity at is
          g.D.Sectors.history c.args.drive.now.disk c.write_quantity.new.drive.disk
          (c.write_quantity.ensures.moments f p.0);
      failures = c.write_quantity.ensures.failures;
      dies = c.write_quantity.ensures.dies;
    }

pub write_quantity-requires-2-clause-there : goal.write_quantity-requires-2-clause-there
write_quantity-requires-2-clause-there = asked.write_quantity-requires-2-clause-there

pub write_quantity-requires-2-clause-fits : goal.write_quantity-requires-2-clause-fits
write_quantity-requires-2-clause-fits = asked.write_quantity-requires-2-clause-fits

pub returns-in_err-write_quantity : goal.returns-in_err-write_quantity
returns-in_err-write_quantity g c =
    let e = err_from_is_err_and c.from_residual.result c.from_residual.ensures.1 in
    let (at, to, is) = moved-of c.args.card.now.newest.body c.in-Some.item c.in-Some.quantity c.in-Some-second.to
    c.in-Some-second.to_quantity c.args.card.now.newest.answer
    (two-in c.new_quantities-new.result _ c.new_quantities-new.ensures.value _ _ c.in-Some.is c.in-Some-second.is) in
    record {
      ready = rw e.1 tt;
      ok = rw e.1 (λ f p. tt);
      moments = λ f p. moved-half f c.args.till c.args.card.now p.1 c.in-Some.item c.in-Some.quantity
          c.in-Some-second.to c.in-Some-second.to_quantity at to is
          g.D.Sectors.history c.args.drive.now.disk c.write_quantity-2.new.drive.disk
          (c.write_quantity-2.ensures.moments f p.0);
      failures = rw e.1 c.in_err-write_quantity.ensures.failures;
      dies = rw e.1 (λ is. c.in_err-write_quantity.ensures.dies refl);
    }

pub write_quantity-requires-3-clause-there : goal.write_quantity-requires-3-clause-there
write_quantity-requires-3-clause-there = asked.write_quantity-requires-3-clause-there

pub write_quantity-requires-3-clause-fits : goal.write_quantity-requires-3-clause-fits
write_quantity-requires-3-clause-fits = asked.write_quantity-requires-3-clause-fits

pub returns : goal.returns
returns g c =
    let (at, to, is) = moved-of c.args.card.now.newest.body c.in-Some.item c.in-Some.quantity c.in-Some-second.to
    c.in-Some-second.to_quantity c.args.card.now.newest.answer
    (two-in c.new_quantities-new.result _ c.new_quantities-new.ensures.value _ _ c.in-Some.is c.in-Some-second.is) in
    record {
      ready = c.write_quantity-3.ensures.ready;
      ok = λ f p.
          let (h, x) = p in
          let (b, has) = c.in_ok-write_quantity.ensures.ok f h in
          moved-ok f c.args.till c.args.card.now x c.in-Some.item c.in-Some.quantity c.in-Some-second.to
          c.in-Some-second.to_quantity at to is
          b _ c.write_quantity-3.result (c.write_quantity-3.ensures.ok _ has);
      moments = λ f p.
          let (h, x) = p in
          let (b, has) = c.in_ok-write_quantity.ensures.ok f h in
          moved-moments f c.args.till c.args.card.now x c.in-Some.item c.in-Some.quantity c.in-Some-second.to
          c.in-Some-second.to_quantity at to is
          g.D.Sectors.history c.args.drive.now.disk c.write_quantity-2.new.drive.disk c.write_quantity-3.new.drive.disk b
          (c.write_quantity-2.ensures.moments f h) (c.write_quantity-3.ensures.moments _ has);
      failures = told-after g.D.Sectors.history c.args.drive.now.disk c.write_quantity-2.new.drive.disk
          c.write_quantity-3.new.drive.disk c.write_quantity-3.result c.in_ok-write_quantity.ensures.failures
          c.write_quantity-3.ensures.failures;
      dies = c.write_quantity-3.ensures.dies;
    }
