-- A card of version 1 holds one request; as version 2 it holds the same.
mod Failed
mod Left
use Rattle.std.proofs.Common.{ap, arith, sym, subst, ◌+◌, ◌-◌, ◌<◌, ◌≡◌, ◌∙◌}
use Rattle.std.proofs.lemmas.Bool.{false≢true}
use Rattle.request_cards.specs.CardTexts.{card_text}
use Rattle.host_session.specs.session.Settling.{HasNewTable}
use Rattle.request_cards.specs.Tables.{nth}
use Rattle.host_session.proofs.lemmas.opening.AtRest.{card-at, old-is}
use Rattle.host_session.proofs.lemmas.opening.Migrated.{renewed-moments, renewed-ok, renewed-there}
use Rattle.host_session.proofs.lemmas.opening.Tills.{place-down, place-high, place-up}
use Rattle.host_session.proofs.session.migration.migrate_till.Goals as goal
use Rattle.host_session.proofs.session.migration.migrate_till.Answers.Failed as failed
use Rattle.host_session.proofs.session.migration.migrate_till.Answers.Left as left

pub write_answer-requires-clause-there : goal.write_answer-requires-clause-there
write_answer-requires-clause-there g c =
    let k = c.from-place.result - 1 in
    let up = place-up c.from-place.result c.args.till c.from-place.ensures c.requires.low in
    let down = place-down c.from-place.result c.args.till c.from-place.ensures in
    let lt = place-high c.from-place.result c.args.till c.from-place.ensures c.requires.low c.requires.high in
    let table = c.args.requests.now in
    let img = g.D.Sectors.history.image c.args.drive.now.disk in
    let (s, h) = c.requires.table in
    let one = sym c.version.ensures ∙ c.if-version-ne1.false in
    let h2 = subst (HasNewTable img s table) down h in
    let there = renewed-there img s table k lt c.told-requests h2 c.in-Some.card (ap (nth table) up
    ∙ card-at table k c.args.till _ up lt c.told-requests c.in-Some.card c.in-Some.is) one in
    (h2.closed.has.shop.files, h2.closed.has.shop.has, c.requires.low, c.requires.high, omega (arith, up, there))

pub returns-in_default : goal.returns-in_default
returns-in_default = left.returns-in_default

pub returns-then-version-ne1 : goal.returns-then-version-ne1
returns-then-version-ne1 = left.returns-then-version-ne1

pub returns-in_err-write_answer : goal.returns-in_err-write_answer
returns-in_err-write_answer = failed.returns-in_err-write_answer

pub returns : goal.returns
returns g c = record {
  puts = record {
    ready = c.in_ok-write_answer.ensures.puts.ready;
    ok = λ s h.
        let k = c.from-place.result - 1 in
        let up = place-up c.from-place.result c.args.till c.from-place.ensures c.requires.low in
        let down = place-down c.from-place.result c.args.till c.from-place.ensures in
        let lt = place-high c.from-place.result c.args.till c.from-place.ensures c.requires.low c.requires.high in
        let table = c.args.requests.now in
        let S = g.D.Sectors.history in
        let img = S.image c.args.drive.now.disk in
        let one = sym c.version.ensures ∙ c.if-version-ne1.false in
        let h2 = subst (HasNewTable img s table) down h in
        renewed-ok img s table k lt c.told-requests h2 c.in-Some.card (ap (nth table) up
        ∙ card-at table k c.args.till _ up lt c.told-requests c.in-Some.card c.in-Some.is) one
        c.args.till up c.print.result (c.print.ensures ∙ ap card_text c.to_v2-new.ensures) c.to_v2-new.result
        c.to_v2-new.ensures (S.image c.write_answer.new.drive.disk)
        (c.in_ok-write_answer.ensures.puts.ok h2.closed.has.shop.files h2.closed.has.shop.has);
    moments = λ s h.
        let k = c.from-place.result - 1 in
        let up = place-up c.from-place.result c.args.till c.from-place.ensures c.requires.low in
        let down = place-down c.from-place.result c.args.till c.from-place.ensures in
        let lt = place-high c.from-place.result c.args.till c.from-place.ensures c.requires.low c.requires.high in
        let table = c.args.requests.now in
        let S = g.D.Sectors.history in
        let img = S.image c.args.drive.now.disk in
        let one = sym c.version.ensures ∙ c.if-version-ne1.false in
        let h2 = subst (HasNewTable img s table) down h in
        renewed-moments img s table k lt c.told-requests h2 c.in-Some.card (ap (nth table) up
        ∙ card-at table k c.args.till _ up lt c.told-requests c.in-Some.card c.in-Some.is) one
        c.args.till up c.print.result (c.print.ensures ∙ ap card_text c.to_v2-new.ensures) S c.args.drive.now.disk
        c.write_answer.new.drive.disk (c.write_answer.ensures.puts.moments h2.closed.has.shop.files h2.closed.has.shop.has);
    failures = c.in_ok-write_answer.ensures.puts.failures;
    dies = λ is. absurd (false≢true is);
  };
  quiet = λ young.
      let k = c.from-place.result - 1 in
      let up = place-up c.from-place.result c.args.till c.from-place.ensures c.requires.low in
      let lt = place-high c.from-place.result c.args.till c.from-place.ensures c.requires.low c.requires.high in
      absurd (old-is (nth c.args.requests.now c.args.till) c.in-Some.card
      (card-at c.args.requests.now k c.args.till _ up lt c.told-requests c.in-Some.card c.in-Some.is)
      (sym c.version.ensures ∙ c.if-version-ne1.false) young);
}
