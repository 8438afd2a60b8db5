-- The device failed as the card was written.
use Rattle.std.proofs.Common.{ap, sym, subst, ◌-◌, ◌∙◌, refl}
use Rattle.request_cards.specs.CardTexts.{card_text}
use Rattle.host_session.specs.session.Settling.{HasNewTable}
use Rattle.request_cards.specs.Tables.{nth}
use Rattle.host_session.proofs.lemmas.opening.AtRest.{card-at, old-is}
use Rattle.host_session.proofs.lemmas.opening.Migrated.{renewed-moments}
use Rattle.std.proofs.lemmas.Result.{err_from_is_err_and}
use Rattle.host_session.proofs.lemmas.opening.Tills.{place-down, place-high, place-up}
use Rattle.host_session.proofs.session.migration.migrate_till.Goals as goal

pub returns-in_err-write_answer : goal.returns-in_err-write_answer
returns-in_err-write_answer g c =
    let p = err_from_is_err_and c.from_residual.result c.from_residual.ensures.1 in
    record {
      puts = record {
        ready = rw p.1 tt;
        ok = rw p.1 (λ s h. tt);
        moments = λ s h.
            let k = c.from-place.result - 1 in
            let up = place-up c.from-place.result c.args.till c.from-place.ensures c.requires.low in
            let down = place-down c.from-place.result c.args.till c.from-place.ensures in
            let lt = place-high c.from-place.result c.args.till c.from-place.ensures c.requires.low c.requires.high in
            let table = c.args.requests.now in
            let S = g.D.Sectors.history in
            let img = S.image c.args.drive.now.disk in
            let one = sym c.version.ensures ∙ c.if-version-ne1.false in
            let h2 = subst (HasNewTable img s table) down h in
            renewed-moments img s table k lt c.told-requests h2 c.in-Some.card (ap (nth table) up
            ∙ card-at table k c.args.till _ up lt c.told-requests c.in-Some.card c.in-Some.is) one
            c.args.till up c.print.result (c.print.ensures ∙ ap card_text c.to_v2-new.ensures) S c.args.drive.now.disk
            c.write_answer.new.drive.disk (c.write_answer.ensures.puts.moments h2.closed.has.shop.files
            h2.closed.has.shop.has);
        failures = rw p.1 c.in_err-write_answer.ensures.puts.failures;
        dies = rw p.1 (λ is. c.in_err-write_answer.ensures.puts.dies refl);
      };
      quiet = λ young.
          let k = c.from-place.result - 1 in
          let up = place-up c.from-place.result c.args.till c.from-place.ensures c.requires.low in
          let lt = place-high c.from-place.result c.args.till c.from-place.ensures c.requires.low c.requires.high in
          absurd (old-is (nth c.args.requests.now c.args.till) c.in-Some.card
          (card-at c.args.requests.now k c.args.till _ up lt c.told-requests c.in-Some.card c.in-Some.is)
          (sym c.version.ensures ∙ c.if-version-ne1.false) young);
    }
