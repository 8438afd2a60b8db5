-- The intent first, and then the cards of version 1.
use Rattle.std.proofs.Common.{ap, arith, false, ◌≡◌, ◌∙◌, refl}
use Rattle.host_session.proofs.lemmas.Held.{changes_then, changes_weaker}
use Rattle.host_session.specs.shop.Shop.{IsShop, any_old}
use Rattle.host_session.proofs.lemmas.writing.Selection.{told-after}
use Rattle.host_session.proofs.lemmas.opening.AtRest.{none-weaker}
use Rattle.std.proofs.lemmas.Result.{err_from_is_err_and}
use Rattle.host_session.proofs.session.settling.bring_to_rest.Goals as goal

pub migrate-requires-clause-table : goal.migrate-requires-clause-table
migrate-requires-clause-table g c = let (s, h, is) = c.requires.table in (s, c.in_ok-recover.ensures.puts.ok s (h, is))

pub returns-in_err-recover : goal.returns-in_err-recover
returns-in_err-recover g c =
    let e = err_from_is_err_and c.from_residual.result c.from_residual.ensures.1 in
    record {
      puts = record {
        ready = rw e.1 tt;
        ok = rw e.1 (λ s p. tt);
        moments = λ s p.
            changes_weaker g.D.Sectors.history c.args.drive.now.disk c.recover.new.drive.disk 5 69 (λ i. IsShop i s)
            (λ i. IsShop i s) (omega arith) (λ i x. x) (c.recover.ensures.puts.moments s p);
        failures = rw e.1 c.in_err-recover.ensures.puts.failures;
        dies = rw e.1 (λ is. c.in_err-recover.ensures.puts.dies refl);
      };
      quiet = none-weaker _ (any_old c.args.requests.now ≡ false → c.recover.new.drive ≡ c.args.drive.now)
          c.args.intent.now (λ p young. p.0) c.recover.ensures.quiet;
    }

pub returns : goal.returns
returns g c = record {
  puts = record {
    ready = c.migrate.ensures.puts.ready;
    ok = λ s p. c.migrate.ensures.puts.ok s (c.in_ok-recover.ensures.puts.ok s p);
    moments = λ s p.
        changes_then g.D.Sectors.history c.args.drive.now.disk c.recover.new.drive.disk c.migrate.new.drive.disk 5 64 69
        (λ i. IsShop i s) (omega arith)
        (c.recover.ensures.puts.moments s p) (c.migrate.ensures.puts.moments s (c.in_ok-recover.ensures.puts.ok s p));
    failures = told-after g.D.Sectors.history c.args.drive.now.disk c.recover.new.drive.disk c.migrate.new.drive.disk
        c.migrate.result c.in_ok-recover.ensures.puts.failures c.migrate.ensures.puts.failures;
    dies = c.migrate.ensures.puts.dies;
  };
  quiet = none-weaker _ (any_old c.args.requests.now ≡ false → c.migrate.new.drive ≡ c.args.drive.now) c.args.intent.now
      (λ p young. (c.migrate.ensures.quiet (ap any_old p.1 ∙ young)).0 ∙ p.0) c.recover.ensures.quiet;
}
