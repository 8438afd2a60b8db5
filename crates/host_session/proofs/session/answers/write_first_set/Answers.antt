-- While STOCK grows the shop is the one before the request; from then on it is as for a card that is there.
use Rattle.std.proofs.Common.{arith, ap, refl}
use Rattle.host_session.proofs.lemmas.growing.GrownStock.{grown-long}
use Rattle.host_session.proofs.lemmas.session.Keepings.{first-set, grown-items, keeping-grown}
use Rattle.host_session.proofs.lemmas.session.KeepingCalls.{first-moments, first-onward, first-settled, growing-either, growing-onward}
use Rattle.rel_records.specs.growth.Growth.{growth_writes}
use Rattle.std.proofs.lemmas.Result.{err_from_is_err_and}
use Rattle.host_session.proofs.lemmas.writing.Selection.{told-after}
use Rattle.host_session.proofs.session.answers.write_first_set.Goals as goal

pub grow_stock-requires-clause-fits : goal.grow_stock-requires-clause-fits
grow_stock-requires-clause-fits g c =
    let (f, h, k, none) = c.requires.keeping in
    let (low, high) = first-set f c.args.request.now c.args.card.now k c.requires.intent none in
    (f, h, omega (arith, low, c.item.ensures.value), omega (arith, high, c.item.ensures.value))

pub write_intent-requires-clause-keeping : goal.write_intent-requires-clause-keeping
write_intent-requires-clause-keeping g c =
    let (f, h, k, none) = c.requires.keeping in
    let (m, b, has, far) = c.in_ok-grow_stock.ensures.ok f h in (
      _,
      has,
      keeping-grown f c.args.request.now c.args.card.now k m b,
      grown-items f c.args.request.now c.args.card.now k m b
          (omega (arith, grown-long f m b c.item.result far, c.item.ensures.value)),
    )

pub returns-in_err-grow_stock : goal.returns-in_err-grow_stock
returns-in_err-grow_stock g c =
    let e = err_from_is_err_and c.from_residual.result c.from_residual.ensures.1 in
    record {
      puts = record {
        ready = rw e.1 tt;
        ok = rw e.1 (λ f p. tt);
        moments = λ f p.
            growing-either f c.args.request.now c.args.card.now p.1 g.D.Sectors.history c.args.drive.now.disk
            c.grow_stock.new.drive.disk _ _
            (omega (arith, ap (growth_writes p.0.stock_file) c.item.ensures.value)) (c.grow_stock.ensures.moments f p.0);
        failures = rw e.1 c.in_err-grow_stock.ensures.failures;
        dies = rw e.1 (λ is. c.in_err-grow_stock.ensures.dies refl);
      };
      onward = λ f h k.
          growing-onward f c.args.request.now c.args.card.now k g.D.Sectors.history c.args.drive.now.disk
          c.grow_stock.new.drive.disk _ (c.grow_stock.ensures.moments f h);
    }

pub returns : goal.returns
returns g c = record {
  puts = record {
    ready = c.write_intent.ensures.puts.ready;
    ok = λ f p.
        let (h, k) = p in
        let (m, b, has, far) = c.in_ok-grow_stock.ensures.ok f h in
        first-settled f c.args.request.now c.args.card.now k g.D.Sectors.history m b c.write_intent.new.drive.disk
        c.write_intent.result
        (c.write_intent.ensures.puts.ok _ (has, keeping-grown f c.args.request.now c.args.card.now k m b));
    moments = λ f p.
        let (h, k) = p in
        let (m, b, has, far) = c.in_ok-grow_stock.ensures.ok f h in
        let w = first-moments f c.args.request.now c.args.card.now k g.D.Sectors.history m b c.args.drive.now.disk
        c.grow_stock.new.drive.disk c.write_intent.new.drive.disk _ _
        (c.grow_stock.ensures.moments f h)
        (c.write_intent.ensures.puts.moments _ (has, keeping-grown f c.args.request.now c.args.card.now k m b)) in
        record { held = w.held; writes = omega (arith, w.writes, ap (growth_writes h.stock_file) c.item.ensures.value) };
    failures = told-after g.D.Sectors.history c.args.drive.now.disk c.grow_stock.new.drive.disk
        c.write_intent.new.drive.disk c.write_intent.result c.in_ok-grow_stock.ensures.failures
        c.write_intent.ensures.puts.failures;
    dies = c.write_intent.ensures.puts.dies;
  };
  onward = λ f h k.
      let (m, b, has, far) = c.in_ok-grow_stock.ensures.ok f h in
      first-onward f c.args.request.now c.args.card.now k g.D.Sectors.history m b c.args.drive.now.disk
      c.grow_stock.new.drive.disk c.write_intent.new.drive.disk _ (c.grow_stock.ensures.moments f h)
      (c.write_intent.ensures.onward _ has (keeping-grown f c.args.request.now c.args.card.now k m b));
}
