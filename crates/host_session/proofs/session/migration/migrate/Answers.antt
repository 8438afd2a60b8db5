-- One till more in each turn.
use Rattle.std.proofs.Common.{Err, Result, ap, arith, le_refl, refl, subst, sym, ℕ, ◌+◌, ◌-◌, ◌<◌, ◌≡◌, ◌≤◌, ◌∙◌}
use Rattle.std.proofs.lemmas.Bool.{false≢true}
use Rattle.std.proofs.lemmas.Result.{err_from_is_err_and}
use Rattle.d64_image.proofs.Moments.{failed_later}
use Rattle.host_session.proofs.lemmas.Held.{changes_then, changes_weaker, no_change}
use Rattle.d64_image.specs.History.{TellsFailure}
use Rattle.drive_channels.specs.declared.faults.Dead.{Dead}
use Rattle.host_session.specs.session.Settling.{HasNewTable}
use Rattle.host_session.specs.shop.Shop.{IsShop, is_old}
use Rattle.request_cards.specs.Tables.{nth}
use Rattle.host_session.proofs.lemmas.opening.AtRest.{table-start}
use Rattle.host_session.proofs.lemmas.opening.Migrated.{table-none_old}
use Rattle.host_session.proofs.session.migration.migrate.Goals as goal

-- the till of a place, and back
back : (place : ℕ) → place ≡ (place + 1) - 1
back place = omega arith

-- all places were gone through
all : (place : ℕ) → place ≤ 64 → 64 ≤ place → place ≡ 64
all place few end = omega (arith, few, end)

-- one more is no more than all
next : (place : ℕ) → place < 64 → place + 1 ≤ 64
next place test = omega (arith, test)

pub loop-place-init : goal.loop-place-init
loop-place-init g c =
    let S = g.D.Sectors.history in record {
      ready = c.requires.ready;
      failures = refl;
      few = omega arith;
      so_far = λ s h. (
        table-start (S.image c.args.drive.now.disk) s c.args.requests.now h,
        no_change S
            c.args.drive.now.disk (λ i. IsShop i s) h.has.shop,
      );
      quiet = λ young. (refl, refl);
    }

pub migrate_till-requires-clause-table : goal.migrate_till-requires-clause-table
migrate_till-requires-clause-table g c =
    let S = g.D.Sectors.history in
    let (s, h) = c.requires.table in
    let same = back c.loop-place.place in (
      s,
      subst (HasNewTable (S.image c.loop-place.drive.disk) s c.loop-place.requests) same
          (c.loop-place.invariant.so_far s h).0,
    )

pub loop-place-preserved : goal.loop-place-preserved
loop-place-preserved g c =
    let S = g.D.Sectors.history in
    let inv = c.loop-place.invariant in
    let same = back c.loop-place.place in record {
      ready = c.in_ok-migrate_till.ensures.puts.ready;
      failures = c.in_ok-migrate_till.ensures.puts.failures ∙ inv.failures;
      few = next c.loop-place.place c.loop-place-test.true;
      so_far = λ s h.
          let (table, changes) = inv.so_far s h in
          let now = subst (HasNewTable (S.image c.loop-place.drive.disk) s c.loop-place.requests) same table in (
            c.in_ok-migrate_till.ensures.puts.ok s now,
            changes_then S c.args.drive.now.disk c.loop-place.drive.disk c.migrate_till.new.drive.disk
                c.loop-place.place 1 (c.loop-place.place + 1) (λ i. IsShop i s)
                (le_refl (c.loop-place.place + 1)) changes
                (c.migrate_till.ensures.puts.moments s now),
          );
      quiet = λ young.
          let (drive, requests) = inv.quiet young in
          let (d, r) = c.migrate_till.ensures.quiet (ap (λ t. is_old (nth t (c.loop-place.place + 1))) requests
          ∙ table-none_old c.args.requests.now young c.loop-place.place) in
          (d ∙ drive, r ∙ requests);
    }

pub returns-in_err-migrate_till : goal.returns-in_err-migrate_till
returns-in_err-migrate_till g c =
    let p = err_from_is_err_and c.from_residual.result c.from_residual.ensures.1 in
    record {
      puts = record {
        ready = rw p.1 tt;
        ok = rw p.1 (λ s h. tt);
        moments = λ s h.
            let S = g.D.Sectors.history in
            let (table, changes) = c.loop-place.invariant.so_far s h in
            let same = back c.loop-place.place in
            let now = subst (HasNewTable (S.image c.loop-place.drive.disk) s c.loop-place.requests) same table in
            changes_then S c.args.drive.now.disk c.loop-place.drive.disk c.migrate_till.new.drive.disk
            c.loop-place.place 1 64 (λ i. IsShop i s) (next c.loop-place.place c.loop-place-test.true) changes
            (c.migrate_till.ensures.puts.moments s now);
        failures = let S = g.D.Sectors.history in
            let p = err_from_is_err_and c.from_residual.result c.from_residual.ensures.1 in
            subst (λ (r : Result (Unit {0}) Dead). TellsFailure S c.args.drive.now.disk c.migrate_till.new.drive.disk r)
            (sym (p.1 ∙ ap Err p.2))
            (failed_later S c.args.drive.now.disk c.loop-place.drive.disk c.migrate_till.new.drive.disk
            c.loop-place.invariant.failures c.in_err-migrate_till.ensures.puts.failures);
        dies = rw p.1 (λ is. c.in_err-migrate_till.ensures.puts.dies refl);
      };
      quiet = λ young.
          let (drive, requests) = c.loop-place.invariant.quiet young in
          let (d, r) = c.migrate_till.ensures.quiet (ap (λ t. is_old (nth t (c.loop-place.place + 1))) requests
          ∙ table-none_old c.args.requests.now young c.loop-place.place) in
          (d ∙ drive, r ∙ requests);
    }

pub returns : goal.returns
returns g c = record {
  puts = record {
    ready = c.loop-place.invariant.ready;
    ok = λ s h.
        let n = all c.loop-place.place c.loop-place.invariant.few c.loop-place-test.false in
        subst (HasNewTable (g.D.Sectors.history.image c.loop-place.drive.disk) s c.loop-place.requests) n
        (c.loop-place.invariant.so_far s h).0;
    moments = λ s h.
        changes_weaker g.D.Sectors.history c.args.drive.now.disk c.loop-place.drive.disk c.loop-place.place 64
        (λ i. IsShop i s) (λ i. IsShop i s) c.loop-place.invariant.few (λ i x. x)
        (c.loop-place.invariant.so_far s h).1;
    failures = c.loop-place.invariant.failures;
    dies = λ is. absurd (false≢true is);
  };
  quiet = c.loop-place.invariant.quiet;
}
