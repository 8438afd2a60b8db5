-- A till without a card, and a card of version 2, are left.
use Rattle.std.proofs.Common.{refl, subst, ◌-◌, ◌∙◌}
use Rattle.std.proofs.lemmas.Bool.{false≢true}
use Rattle.host_session.specs.session.Settling.{HasNewTable}
use Rattle.host_session.specs.shop.Shop.{IsShop}
use Rattle.host_session.proofs.lemmas.opening.AtRest.{new-young, none-young, table-more, young-at}
use Rattle.host_session.proofs.lemmas.opening.Unwritten.{unwritten}
use Rattle.host_session.proofs.lemmas.opening.Tills.{place-down, place-high, place-up}
use Rattle.host_session.proofs.session.migration.migrate_till.Goals as goal

pub returns-in_default : goal.returns-in_default
returns-in_default g c = record {
  puts = record {
    ready = c.requires.ready;
    ok = λ s h.
        let k = c.from-place.result - 1 in
        let high = place-high c.from-place.result c.args.till c.from-place.ensures c.requires.low c.requires.high in
        let up = place-up c.from-place.result c.args.till c.from-place.ensures c.requires.low in
        let down = place-down c.from-place.result c.args.till c.from-place.ensures in
        let table = c.args.requests.now in
        let img = g.D.Sectors.history.image c.args.drive.now.disk in
        table-more img s table k c.args.till up (subst (HasNewTable img s table) down h)
        (young-at table k c.args.till _ up high c.told-requests
        (none-young _ c.in_default.not-Some));
    moments = λ s h. unwritten g.D.Sectors.history c.args.drive.now.disk 1 (λ i. IsShop i s) h.closed.has.shop;
    failures = refl;
    dies = λ is. absurd (false≢true is);
  };
  quiet = λ young. (refl, refl);
}

pub returns-then-version-ne1 : goal.returns-then-version-ne1
returns-then-version-ne1 g c = record {
  puts = record {
    ready = c.requires.ready;
    ok = λ s h.
        let k = c.from-place.result - 1 in
        let high = place-high c.from-place.result c.args.till c.from-place.ensures c.requires.low c.requires.high in
        let up = place-up c.from-place.result c.args.till c.from-place.ensures c.requires.low in
        let down = place-down c.from-place.result c.args.till c.from-place.ensures in
        let table = c.args.requests.now in
        let img = g.D.Sectors.history.image c.args.drive.now.disk in
        table-more img s table k c.args.till up (subst (HasNewTable img s table) down h)
        (young-at table k c.args.till _ up high c.told-requests
        (new-young _ c.in-Some.card c.in-Some.is (λ e. c.if-version-ne1.true (c.version.ensures ∙ e))));
    moments = λ s h. unwritten g.D.Sectors.history c.args.drive.now.disk 1 (λ i. IsShop i s) h.closed.has.shop;
    failures = refl;
    dies = λ is. absurd (false≢true is);
  };
  quiet = λ young. (refl, refl);
}
