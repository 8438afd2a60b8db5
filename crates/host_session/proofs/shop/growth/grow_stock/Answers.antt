-- An item up to the top is in reach, and its growth isn't refused.
use Rattle.host_session.proofs.lemmas.growing.GrownStock.{grown-moments, grown-ok, grown-part, ready-part, top-of}
use Rattle.host_session.proofs.lemmas.growing.GrownStock.{unread-moments}
use Rattle.host_session.proofs.lemmas.growing.StockRoom.{stock-reach}
use Rattle.host_session.proofs.lemmas.writing.Selection.{told-after}
use Rattle.std.proofs.Common.{refl}
use Rattle.std.proofs.lemmas.Result.{err_from_is_err_and}
use Rattle.host_session.proofs.shop.growth.grow_stock.Goals as goal

pub select-requires-clause-reach : goal.select-requires-clause-reach
select-requires-clause-reach g c =
    let (f, h, low, le) = c.requires.fits in (
      h.layout,
      h.stock_place,
      h.stock_file,
      stock-reach (g.D.Sectors.history.image c.args.drive.now.disk) f h
          c.args.item le low,
    )

pub returns-in_err-select : goal.returns-in_err-select
returns-in_err-select g c =
    let p = err_from_is_err_and c.from_residual.result c.from_residual.ensures.1 in
    record {
      ready = rw p.1 tt;
      ok = rw p.1 (λ f h. tt);
      moments = λ f h.
          unread-moments g.D.Sectors.history c.args.drive.now.disk c.select.new.self.disk 2817 _ f h
          c.select.ensures.reads;
      failures = rw p.1 c.in_err-select.ensures.failures;
      dies = rw p.1 (λ is. c.in_err-select.ensures.dies refl);
    }

pub returns : goal.returns
returns g c = record {
  ready = let (f, h, low, le) = c.requires.fits in
      let S = g.D.Sectors.history in
      let reach = stock-reach (S.image c.args.drive.now.disk) f h c.args.item le low in
      ready-part c.write.result _ _ (grown-ok S c.args.drive.now c.select.new.self c.write.new.self c.write.result f h
      c.args.item le c.requires.ready.clean
      c.select.ensures.reads.image (c.in_ok-select.ensures.at h.layout h.stock_place h.stock_file reach)
      c.write.ensures.serves c.write.ensures.row);
  ok = λ f h.
      let (k, other, low, le) = c.requires.fits in
      let S = g.D.Sectors.history in
      let top = top-of (S.image c.args.drive.now.disk) k f c.args.item other h le in
      let reach = stock-reach (S.image c.args.drive.now.disk) f h c.args.item top low in
      grown-part c.write.result _ _ (grown-ok S c.args.drive.now c.select.new.self c.write.new.self c.write.result f h
      c.args.item top c.requires.ready.clean
      c.select.ensures.reads.image (c.in_ok-select.ensures.at h.layout h.stock_place h.stock_file reach)
      c.write.ensures.serves c.write.ensures.row);
  moments = λ f h.
      let (k, other, low, le) = c.requires.fits in
      let S = g.D.Sectors.history in
      let top = top-of (S.image c.args.drive.now.disk) k f c.args.item other h le in
      let reach = stock-reach (S.image c.args.drive.now.disk) f h c.args.item top low in
      grown-moments S c.args.drive.now c.select.new.self c.write.new.self 2817 f h c.args.item c.select.ensures.reads
      (c.in_ok-select.ensures.at h.layout h.stock_place h.stock_file reach) c.write.ensures.moments;
  failures = let (f, h, low, le) = c.requires.fits in
      let reach = stock-reach (g.D.Sectors.history.image c.args.drive.now.disk) f h c.args.item le low in
      told-after g.D.Sectors.history c.args.drive.now.disk c.select.new.self.disk c.write.new.self.disk c.write.result
      c.in_ok-select.ensures.failures
      (c.write.ensures.serves.failures (c.in_ok-select.ensures.at h.layout h.stock_place h.stock_file reach).alive);
  dies = c.write.ensures.serves.dies.1;
}
