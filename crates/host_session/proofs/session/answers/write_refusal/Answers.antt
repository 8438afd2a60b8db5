-- The card is written at once.
use Rattle.std.proofs.Common.{arith}
use Rattle.host_session.proofs.lemmas.session.Keepings.{closed-items}
use Rattle.host_session.proofs.lemmas.session.KeepingCalls.{put-counted, put-moments, put-onward, put-settled}
use Rattle.host_session.proofs.session.answers.write_refusal.Goals as goal

pub returns : goal.returns
returns g c =
    let S = g.D.Sectors.history in
    let a = c.args.request.now in
    let card = c.args.card.now in
    let put = c.write_answer.ensures.puts in
    record {
      puts = record {
        ready = put.ready;
        ok = λ f p.
            put-settled f a card c.till.result c.print.result c.till.ensures.value c.print.ensures p.1 S
            c.requires.refused c.write_answer.new.drive c.write_answer.result (put.ok f p.0) put.ready;
        moments = λ f p.
            put-moments f a card c.till.result c.print.result c.till.ensures.value c.print.ensures p.1 S
            (closed-items f a card p.1 c.requires.refused) c.args.drive.now.disk c.write_answer.new.drive.disk 1 1
            (omega arith) (put.moments f p.0);
        failures = put.failures;
        dies = put.dies;
      };
      counted = λ f h k.
          put-counted f a card c.till.result c.print.result c.till.ensures.value c.print.ensures k S
          (closed-items f a card k c.requires.refused) c.args.drive.now.disk c.write_answer.new.drive.disk
          c.write_answer.result (put.ok f h) c.write_answer.ensures.one_step;
      onward = λ f h k.
          put-onward f a card c.till.result c.print.result c.till.ensures.value c.print.ensures k S
          (closed-items f a card k c.requires.refused) c.args.drive.now.disk c.write_answer.new.drive.disk _
          c.write_answer.result h (put.ok f h) c.write_answer.ensures.one_step (put.moments f h);
    }
