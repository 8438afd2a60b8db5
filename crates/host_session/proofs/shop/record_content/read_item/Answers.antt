-- A record of STOCK has 18 bytes, and all of them are judged.
use Rattle.std.proofs.Common.{arith, ap, sym, refl, ◌∙◌}
use Rattle.d64_image.proofs.Moments.{no_reads, reads_weaker}
use Rattle.host_session.specs.shop.Files.{record_at}
use Rattle.host_session.proofs.lemmas.judging.Readings.{item-read}
use Rattle.host_session.proofs.shop.record_content.read_item.Goals as goal

pub item_held-requires : goal.item_held-requires
item_held-requires g c =
    let S = g.D.Sectors.history in
    let (f, a) = c.requires.of in
    let img = S.image c.args.disk.now in
    let is = c.in-Some.ensures.bytes img (S.whole c.args.disk.now)
    (a.has.layout, a.has.stock_place, a.has.stock_file, a.stock_of) c.requires.kept in
    (item-read img (S.whole c.args.disk.now) f c.args.files.now a c.from.result c.in-Some.bytes.now
    (is.bytes a.has.layout a.has.stock_place a.has.stock_file a.stock_of)).1

pub returns-in-Some : goal.returns-in-Some
returns-in-Some g c =
    let S = g.D.Sectors.history in
    let img = S.image c.args.disk.now in
    record {
      ok = λ f a.
          let is = c.in-Some.ensures.bytes img (S.whole c.args.disk.now)
          (a.has.layout, a.has.stock_place, a.has.stock_file, a.stock_of) c.requires.kept in
          let read = item-read img (S.whole c.args.disk.now) f c.args.files.now a c.from.result
          c.in-Some.bytes.now (is.bytes a.has.layout a.has.stock_place a.has.stock_file a.stock_of) in (
            c.in-Some.bytes.now,
            ap (λ r. record_at f.stock r) (sym c.from.ensures) ∙ read.0,
            c.item_held.ensures,
          );
      err = λ f a. tt;
      kept = c.requires.kept;
      reads = reads_weaker S c.args.disk.now c.args.disk.now 0 3 (omega arith) (no_reads S c.args.disk.now);
      failures = refl;
    }
