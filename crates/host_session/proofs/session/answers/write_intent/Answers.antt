-- The intent, whose record is written at once, and its completion, during which the shop is the one after the request.
use Rattle.std.proofs.Common.{arith, refl}
use Rattle.host_session.proofs.lemmas.session.Keepings.{open-items}
use Rattle.host_session.proofs.lemmas.session.KeepingCalls.{answer-named, intent-counted, intent-moments, intent-onward}
use Rattle.host_session.proofs.lemmas.session.KeepingCalls.{intent-settled, items-for, named-intent, put-counted}
use Rattle.host_session.proofs.lemmas.session.KeepingCalls.{put-moments, put-onward}
use Rattle.std.proofs.lemmas.Result.{err_from_is_err_and}
use Rattle.host_session.proofs.lemmas.writing.Selection.{told-after}
use Rattle.host_session.proofs.session.answers.write_intent.Goals as goal

pub complete_with-requires-clause-intent : goal.complete_with-requires-clause-intent
complete_with-requires-clause-intent g c =
    let (f, h, k, all) = c.requires.keeping in (
      _,
      answer-named f c.args.request.now c.args.card.now c.till-till.result c.print-text.result c.till-till.ensures.value
          c.print-text.ensures _ (c.in_ok-write_answer.ensures.puts.ok f h),
      named-intent f c.args.request.now c.args.card.now c.till-till.result c.print-text.result c.till-till.ensures.value
          c.print-text.ensures k g.D.Sectors.history c.requires.intent all,
    )

pub complete_with-requires-clause-text : goal.complete_with-requires-clause-text
complete_with-requires-clause-text g c =
    let (f, h, k, all) = c.requires.keeping in
    c.mark_answered.ensures c.args.card.now k.version c.print-text.ensures

pub returns-in_err-write_answer : goal.returns-in_err-write_answer
returns-in_err-write_answer g c =
    let e = err_from_is_err_and c.from_residual.result c.from_residual.ensures.1 in
    let S = g.D.Sectors.history in
    let a = c.args.request.now in
    let card = c.args.card.now in
    let (f', h', k', all) = c.requires.keeping in
    record {
      puts = record {
        ready = rw e.1 tt;
        ok = rw e.1 (λ f p. tt);
        moments = λ f p.
            let items = items-for (S.image c.args.drive.now.disk) f' f card h' p.0 all in
            put-moments f a card c.till-till.result c.print-text.result c.till-till.ensures.value c.print-text.ensures
            p.1 S (open-items f a card p.1 c.requires.intent items) c.args.drive.now.disk c.write_answer.new.drive.disk
            1 _ (omega arith) (c.write_answer.ensures.puts.moments f p.0);
        failures = rw e.1 c.in_err-write_answer.ensures.puts.failures;
        dies = rw e.1 (λ is. c.in_err-write_answer.ensures.puts.dies refl);
      };
      counted = λ f h k.
          let items = items-for (S.image c.args.drive.now.disk) f' f card h' h all in
          put-counted f a card c.till-till.result c.print-text.result c.till-till.ensures.value c.print-text.ensures k
          S (open-items f a card k c.requires.intent items) c.args.drive.now.disk c.write_answer.new.drive.disk
          c.write_answer.result (c.write_answer.ensures.puts.ok f h) c.write_answer.ensures.one_step;
      onward = λ f h k.
          let items = items-for (S.image c.args.drive.now.disk) f' f card h' h all in
          put-onward f a card c.till-till.result c.print-text.result c.till-till.ensures.value c.print-text.ensures k
          S (open-items f a card k c.requires.intent items) c.args.drive.now.disk c.write_answer.new.drive.disk _
          c.write_answer.result h (c.write_answer.ensures.puts.ok f h) c.write_answer.ensures.one_step
          (c.write_answer.ensures.puts.moments f h);
    }

pub returns : goal.returns
returns g c =
    let S = g.D.Sectors.history in
    let a = c.args.request.now in
    let card = c.args.card.now in
    let (f', h', k', all) = c.requires.keeping in
    record {
      puts = record {
        ready = c.complete_with.ensures.ready;
        ok = λ f p.
            let items = items-for (S.image c.args.drive.now.disk) f' f card h' p.0 all in
            let has = answer-named f a card c.till-till.result c.print-text.result c.till-till.ensures.value
            c.print-text.ensures _ (c.in_ok-write_answer.ensures.puts.ok f p.0) in
            let kept = named-intent f a card c.till-till.result c.print-text.result c.till-till.ensures.value
            c.print-text.ensures p.1 S c.requires.intent items in
            intent-settled f a card c.till-till.result c.print-text.result c.till-till.ensures.value
            c.print-text.ensures p.1 S c.complete_with.new.drive c.complete_with.result
            (c.complete_with.ensures.ok _ (has, kept)) c.complete_with.ensures.ready;
        moments = λ f p.
            let items = items-for (S.image c.args.drive.now.disk) f' f card h' p.0 all in
            let has = answer-named f a card c.till-till.result c.print-text.result c.till-till.ensures.value
            c.print-text.ensures _ (c.in_ok-write_answer.ensures.puts.ok f p.0) in
            let kept = named-intent f a card c.till-till.result c.print-text.result c.till-till.ensures.value
            c.print-text.ensures p.1 S c.requires.intent items in
            intent-moments f a card c.till-till.result c.print-text.result c.till-till.ensures.value
            c.print-text.ensures p.1 S c.requires.intent items c.args.drive.now.disk c.write_answer.new.drive.disk
            c.complete_with.new.drive.disk (c.write_answer.ensures.puts.moments f p.0)
            (c.complete_with.ensures.moments _ (has, kept));
        failures = told-after S c.args.drive.now.disk c.write_answer.new.drive.disk c.complete_with.new.drive.disk
            c.complete_with.result c.in_ok-write_answer.ensures.puts.failures c.complete_with.ensures.failures;
        dies = c.complete_with.ensures.dies;
      };
      counted = λ f h k.
          let items = items-for (S.image c.args.drive.now.disk) f' f card h' h all in
          let has = answer-named f a card c.till-till.result c.print-text.result c.till-till.ensures.value
          c.print-text.ensures _ (c.in_ok-write_answer.ensures.puts.ok f h) in
          let kept = named-intent f a card c.till-till.result c.print-text.result c.till-till.ensures.value
          c.print-text.ensures k S c.requires.intent items in
          intent-counted f a card c.till-till.result c.print-text.result c.till-till.ensures.value
          c.print-text.ensures k S c.args.drive.now.disk c.write_answer.new.drive.disk c.complete_with.new.drive.disk _
          (c.complete_with.ensures.moments _ (has, kept));
      onward = λ f h k.
          let items = items-for (S.image c.args.drive.now.disk) f' f card h' h all in
          let has = answer-named f a card c.till-till.result c.print-text.result c.till-till.ensures.value
          c.print-text.ensures _ (c.in_ok-write_answer.ensures.puts.ok f h) in
          let kept = named-intent f a card c.till-till.result c.print-text.result c.till-till.ensures.value
          c.print-text.ensures k S c.requires.intent items in
          intent-onward f a card c.till-till.result c.print-text.result c.till-till.ensures.value
          c.print-text.ensures k S c.args.drive.now.disk c.write_answer.new.drive.disk c.complete_with.new.drive.disk _
          (c.complete_with.ensures.moments _ (has, kept));
    }
