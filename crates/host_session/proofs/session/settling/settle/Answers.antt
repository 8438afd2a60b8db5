-- Mended, then brought to rest: the same shop at each moment.
use Rattle.std.proofs.Common.{Err, ap, arith, inl, refl, subst, sym, ◌≡◌, ◌∙◌}
use Rattle.std.proofs.lemmas.Result.{err_from_is_err_and}
use Rattle.d64_image.proofs.Moments.{failed_later}
use Rattle.d64_image.specs.History.{Failed}
use Rattle.host_session.specs.Held.{Changes}
use Rattle.host_session.specs.session.Opening.{Untouched}
use Rattle.host_session.specs.shop.Shop.{IsSettled, IsShop, shop_of}
use Rattle.host_session.proofs.lemmas.opening.Opens.{error-changes, error-tells}
use Rattle.host_session.proofs.lemmas.opening.AtRest.{at-rest, judged-shop, judged-table, rest-moments, rest-quiet}
use Rattle.host_session.proofs.lemmas.opening.AtRest.{standing}
use Rattle.host_session.proofs.session.settling.settle.Goals as goal

pub returns-in_err-drive : goal.returns-in_err-drive
returns-in_err-drive g c =
    let S = g.D.Sectors.history in
    let p = err_from_is_err_and c.from_residual.result c.from_residual.ensures.1 in
    let is = p.1 ∙ ap Err p.2 in
    let started = c.in_err-drive.ensures in
    record {
      mends = record {
        ready = rw p.1 tt;
        ok = rw p.1 (λ s h. tt);
        err = rw (p.1, p.2) started.err;
        moments = λ s h.
            error-changes S c.args.disk 883 952 (λ i. IsShop i s) _ c.from_residual.result c.in_err-drive.field-0.0
            (omega arith) is (started.moments s h);
        quiet = λ (s, r).
            error-changes S c.args.disk 0 0 (λ i. i ≡ S.image c.args.disk) _ c.from_residual.result
            c.in_err-drive.field-0.0 (omega arith) is (started.quiet r.clean);
        failures = error-tells S c.args.disk _ c.from_residual.result c.in_err-drive.field-0.0 is started.failures;
      };
      standing = rw p.1 tt;
    }

pub bring_to_rest-requires : goal.bring_to_rest-requires
bring_to_rest-requires g c =
    let (f, has, j) = c.requires.judged in
    let started = c.in_ok-drive.ensures in
    record {
      ready = started.ready;
      table = (
        shop_of f,
        judged-table (g.D.Sectors.history.image c.in_ok-drive.drive.disk) f c.args.found.now (started.ok f has) j,
        j.intent,
      );
    }

pub returns-in-Ok : goal.returns-in-Ok
returns-in-Ok g c =
    let S = g.D.Sectors.history in
    let (f, has, j) = c.requires.judged in
    let started = c.in_ok-drive.ensures in
    let table = judged-table (S.image c.in_ok-drive.drive.disk) f c.args.found.now (started.ok f has) j in
    let puts = c.in-Ok.ensures.puts in
    let rests = puts.ok (shop_of f) (table, j.intent) in
    let new = S.image c.bring_to_rest.new.drive.disk in
    record {
      mends = record {
        ready = puts.ready;
        ok = λ s h.
            subst (IsSettled new) (judged-shop (S.image c.args.disk) f c.args.found.now has j s h)
            (at-rest new (shop_of f) c.bring_to_rest.new.requests rests puts.ready.clean);
        err = tt;
        moments = λ s h.
            rest-moments S c.args.disk c.in_ok-drive.drive c.bring_to_rest.new.drive f has c.args.found.now j s h
            (started.moments s h) (puts.moments (shop_of f) (table, j.intent));
        quiet = λ (s, r).
            rest-quiet S c.args.disk c.in_ok-drive.drive c.bring_to_rest.new.drive f has c.args.found.now j s r
            c.bring_to_rest.ensures.quiet (started.quiet r.clean);
        failures = puts.failures ∙ started.failures;
      };
      standing = standing new f c.args.found.now j c.bring_to_rest.new.requests rests puts.ready.clean;
    }

pub returns-in-Err : goal.returns-in-Err
returns-in-Err g c =
    let S = g.D.Sectors.history in
    let (f, has, j) = c.requires.judged in
    let started = c.in_ok-drive.ensures in
    let table = judged-table (S.image c.in_ok-drive.drive.disk) f c.args.found.now (started.ok f has) j in
    let puts = c.in-Err.ensures.puts in
    let same = sym c.into_disk.ensures in
    record {
      mends = record {
        ready = tt;
        ok = λ s h. tt;
        err = refl;
        moments = λ s h.
            subst (λ d. Changes S c.args.disk d 952 (λ i. IsShop i s)) same
            (rest-moments S c.args.disk c.in_ok-drive.drive c.bring_to_rest.new.drive f has c.args.found.now j s h
            (started.moments s h) (puts.moments (shop_of f) (table, j.intent)));
        quiet = λ (s, r).
            subst (λ d. Untouched S c.args.disk d) same
            (rest-quiet S c.args.disk c.in_ok-drive.drive c.bring_to_rest.new.drive f has c.args.found.now j s r
            c.bring_to_rest.ensures.quiet (started.quiet r.clean));
        failures = inl (
          refl,
          subst (λ d. Failed S c.args.disk d) same
              (failed_later S c.args.disk c.in_ok-drive.drive.disk c.bring_to_rest.new.drive.disk started.failures
              puts.failures),
        );
      };
      standing = tt;
    }
