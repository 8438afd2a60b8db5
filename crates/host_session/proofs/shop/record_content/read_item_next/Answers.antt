-- A record of STOCK has 18 bytes, and all of them are judged.
use Rattle.std.proofs.Common.{arith, ap, length, sym, ◌∙◌}
use Rattle.std.specs.Prelude.{Some}
use Rattle.host_session.specs.shop.Files.{record_at}
use Rattle.host_session.proofs.lemmas.judging.Readings.{absent-told, item-read, past-last}
use Rattle.host_session.proofs.shop.record_content.read_item_next.Goals as goal

pub read_next-requires-clause-of : goal.read_next-requires-clause-of
read_next-requires-clause-of g c =
    let (f, a) = c.requires.of in
    (a.has.layout, a.has.stock_place, a.has.stock_file, a.stock_of)

pub read_next-requires-clause-kept : goal.read_next-requires-clause-kept
read_next-requires-clause-kept g c = c.requires.kept

pub item_held-requires : goal.item_held-requires
item_held-requires g c =
    let S = g.D.Sectors.history in
    let (f, a) = c.requires.of in
    let is = c.in-Ok.ensures.text.ok a.has.layout a.has.stock_place a.has.stock_file a.stock_of in
    ap length c.as_slice.ensures.value
    ∙ (item-read (S.image c.args.disk.now) (S.whole c.args.disk.now) f c.args.files.now a c.from.result
    c.read_next.new.text.items is).1

pub returns-in-Ok : goal.returns-in-Ok
returns-in-Ok g c =
    let S = g.D.Sectors.history in
    let text = c.in-Ok.ensures.text in
    record {
      ok = λ f a.
          let is = text.ok a.has.layout a.has.stock_place a.has.stock_file a.stock_of in
          let read = item-read (S.image c.args.disk.now) (S.whole c.args.disk.now) f c.args.files.now a
          c.from.result c.read_next.new.text.items is in (
            c.as_slice.result.now,
            ap (λ r. record_at f.stock r) (sym c.from.ensures) ∙ read.0
                ∙ ap Some (sym c.as_slice.ensures.value),
            c.item_held.ensures,
          );
      err = λ f a. tt;
      kept = c.in-Ok.ensures.kept;
      reads = text.reads;
      failures = text.failures;
    }

pub returns-in-Err-NotPresent : goal.returns-in-Err-NotPresent
returns-in-Err-NotPresent g c =
    let text = c.in-Err-NotPresent.ensures.text in
    let is = c.in-Err-NotPresent.field-0-is in
    record {
      ok = λ f a.
          let absent = text.not_present a.has.layout a.has.stock_place a.has.stock_file a.stock_of is in
          omega (
            arith,
            past-last _ f.stock c.from.result a.has.stock
                (omega (arith, c.requires.low, c.from.ensures)) absent,
            c.from.ensures,
          );
      err = λ f a. tt;
      kept = c.in-Err-NotPresent.ensures.kept;
      reads = text.reads;
      failures = absent-told g.D.Sectors.history c.args.disk.now c.read_next.new.disk c.in-Err-NotPresent.field-0
          text.failures is;
    }
