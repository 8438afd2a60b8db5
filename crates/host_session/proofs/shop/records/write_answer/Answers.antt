use Rattle.std.proofs.Common.{refl}
use Rattle.host_session.proofs.lemmas.writing.Records.{answer-changes, answer-ok, answer-there, answer-one_step}
use Rattle.host_session.proofs.shop.records.write_answer.Goals as goal

pub write_record-requires-clause-placed : goal.write_record-requires-clause-placed
write_record-requires-clause-placed g c = let t = c.requires.there in
    answer-there (g.D.Sectors.history.image c.args.drive.now.disk) t.0 t.0 t.1 c.from.result c.args.till c.from.ensures
    c.args.text.now c.requires.long t.1 t.2 t.3 t.4

pub returns : goal.returns
returns g c =
    let (k, has, low, high, there) = c.requires.there in
    let S = g.D.Sectors.history in
    let put = c.write_record.ensures.puts in
    record {
      puts = record {
        ready = put.ready;
        ok = λ f h.
            answer-ok (S.image c.args.drive.now.disk) f k h c.from.result c.args.till c.from.ensures c.args.text.now
            c.requires.long has low high there (S.image c.write_record.new.drive.disk) c.write_record.result
            (λ l n f. put.ok (l, n, f));
        moments = λ f h.
            answer-changes (S.image c.args.drive.now.disk) f k h c.from.result c.args.till c.from.ensures
            c.args.text.now c.requires.long has low high there S c.args.drive.now.disk c.write_record.new.drive.disk refl
            (λ l n f. put.moments (l, n, f));
        failures = put.failures;
        dies = put.dies;
      };
      one_step = answer-one_step (S.image c.args.drive.now.disk) k k has c.from.result c.args.till c.from.ensures
          c.args.text.now c.requires.long has low high there c.write_record.result _ c.write_record.ensures.one_step;
    }
