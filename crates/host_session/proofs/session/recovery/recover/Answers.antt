-- The open intent of the table is one of the disk, and it is the shop's as long as it is completed.
use Rattle.std.proofs.Common.{Option, Some, refl, set, subst, sym, ◌-◌, ◌≡◌}
use Rattle.std.proofs.lemmas.Bool.{false≢true}
use Rattle.std.specs.Prelude.{IfNone}
use Rattle.std.proofs.lemmas.Result.{err_from_is_err_and}
use Rattle.host_session.specs.shop.LoadedShop.{IsIntentOf}
use Rattle.host_session.specs.session.Settling.{HasClosedTable}
use Rattle.host_session.specs.shop.Shop.{IsShop}
use Rattle.host_session.proofs.lemmas.opening.Migrated.{completed-changes}
use Rattle.host_session.proofs.lemmas.opening.Recovered.{completed-table, has-intent, intent-card}
use Rattle.host_session.proofs.lemmas.opening.Unwritten.{unwritten}
use Rattle.host_session.proofs.lemmas.opening.Tills.{place-up}
use Rattle.host_session.proofs.session.recovery.recover.Goals as goal

-- an intent that is there says nothing of none
for-some : {A : Type 0} (P : Type 0) (o : Option A) (a : A) → o ≡ Some a → IfNone o P
for-some P o a is = subst (λ q. IfNone q P) (sym is) tt

pub returns-in_default-clause-puts : goal.returns-in_default-clause-puts
returns-in_default-clause-puts g c =
    let S = g.D.Sectors.history in
    let d = c.args.drive.now.disk in
    record {
      ready = c.requires.ready;
      ok = λ s p. record {
        has = p.0;
        no_intent = subst (IsIntentOf c.args.requests.now) c.in_default.is p.1;
      };
      moments = λ s p. unwritten S d 5 (λ i. IsShop i s) p.0.shop;
      failures = refl;
      dies = λ is. absurd (false≢true is);
    }

pub complete-requires-clause-ready : goal.complete-requires-clause-ready
complete-requires-clause-ready g c = c.requires.ready

pub complete-requires-clause-intent : goal.complete-requires-clause-intent
complete-requires-clause-intent g c =
    let (s, h, is) = c.requires.table in
    let only = subst (IsIntentOf c.args.requests.now) c.in-Some.is is in (
      h.shop.files,
      h.shop.has,
      has-intent (g.D.Sectors.history.image c.args.drive.now.disk) s c.args.requests.now h
          c.in-Some.open only,
    )

pub returns-in_err-complete : goal.returns-in_err-complete
returns-in_err-complete g c =
    let e = err_from_is_err_and c.from_residual.result c.from_residual.ensures.1 in
    record {
      puts = record {
        ready = rw e.1 tt;
        ok = rw e.1 (λ s p. tt);
        moments = λ s p.
            let S = g.D.Sectors.history in
            let img = S.image c.args.drive.now.disk in
            let only = subst (IsIntentOf c.args.requests.now) c.in-Some.is p.1 in
            completed-changes S c.args.drive.now.disk c.complete.new.drive.disk img s p.0.shop c.in-Some.open.card
            (c.complete.ensures.moments p.0.shop.files (
              p.0.shop.has,
              has-intent img s c.args.requests.now p.0
                  c.in-Some.open only,
            ));
        failures = rw e.1 c.in_err-complete.ensures.failures;
        dies = rw e.1 (λ is. c.in_err-complete.ensures.dies refl);
      };
      quiet = for-some _ c.args.intent.now c.in-Some.open c.in-Some.is;
    }

pub answered-requires : goal.answered-requires
answered-requires g c =
    let (s, h, is) = c.requires.table in
    let only = subst (IsIntentOf c.args.requests.now) c.in-Some.is is in
    record {
      fits = intent-card (g.D.Sectors.history.image c.args.drive.now.disk) s c.args.requests.now h c.in-Some.open
          only;
    }

pub returns : goal.returns
returns g c =
    let S = g.D.Sectors.history in
    let img = S.image c.args.drive.now.disk in
    let new = S.image c.complete.new.drive.disk in
    let table = c.args.requests.now in
    record {
      puts = record {
        ready = c.in_ok-complete.ensures.ready;
        ok = λ s p.
            let (h, is) = p in
            let only = subst (IsIntentOf table) c.in-Some.is is in
            let place = place-up c.from.result c.in-Some.open.till c.from.ensures only.low in
            let done = c.in_ok-complete.ensures.ok h.shop.files (
              h.shop.has,
              has-intent img s table h c.in-Some.open
                  only,
            ) in
            subst (λ o. HasClosedTable new s (set table (c.from.result - 1) (Some o))) (sym c.answered.ensures)
            (completed-table img s table h c.in-Some.open (c.from.result - 1) place c.told-requests only new done);
        moments = λ s p.
            let only = subst (IsIntentOf table) c.in-Some.is p.1 in
            completed-changes S c.args.drive.now.disk c.complete.new.drive.disk img s p.0.shop c.in-Some.open.card
            (c.complete.ensures.moments p.0.shop.files (p.0.shop.has, has-intent img s table p.0 c.in-Some.open only));
        failures = c.in_ok-complete.ensures.failures;
        dies = λ is. absurd (false≢true is);
      };
      quiet = for-some _ c.args.intent.now c.in-Some.open c.in-Some.is;
    }
