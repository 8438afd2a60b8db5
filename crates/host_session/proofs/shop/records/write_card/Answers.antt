use Rattle.std.proofs.Common.{refl}
use Rattle.host_session.proofs.lemmas.writing.Records.{card-changes, card-ok, card-there}
use Rattle.host_session.proofs.shop.records.write_card.Goals as goal

pub write_record-requires-clause-placed : goal.write_record-requires-clause-placed
write_record-requires-clause-placed g c = let t = c.requires.there in
    card-there (g.D.Sectors.history.image c.args.drive.now.disk) t.0 t.0 t.1 c.args.item c.args.text.now c.requires.long
    t.1 t.2 t.3

pub returns : goal.returns
returns g c =
    let (k, has, low, high) = c.requires.there in
    let S = g.D.Sectors.history in
    let put = c.write_record.ensures.puts in
    record {
      ready = put.ready;
      ok = λ f h.
          card-ok (S.image c.args.drive.now.disk) f k h c.args.item c.args.text.now c.requires.long has low high
          (S.image c.write_record.new.drive.disk) c.write_record.result (λ l n f. put.ok (l, n, f));
      moments = λ f h.
          card-changes (S.image c.args.drive.now.disk) f k h c.args.item c.args.text.now c.requires.long has low high
          S c.args.drive.now.disk c.write_record.new.drive.disk refl (λ l n f. put.moments (l, n, f));
      failures = put.failures;
      dies = put.dies;
    }
