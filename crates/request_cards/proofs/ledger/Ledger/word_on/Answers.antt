-- What is settled changes nothing; the next request is decided and put into the tables.
use Rattle.std.proofs.Common.{Bool, ap, sym, ◌∙◌, refl}
use Rattle.std.specs.Prelude.{if◌then◌else◌}
use Rattle.request_cards.specs.declared.decision.Outcome.{Outcome}
use Rattle.request_cards.specs.declared.reply.Word.TheVariants.{Kept}
use Rattle.request_cards.specs.declared.standing.Standing.{Standing}
use Rattle.request_cards.specs.CardTexts.{Card}
use Rattle.request_cards.specs.Ledgers.{applied, is_new, word_on}
use Rattle.request_cards.specs.Tables.{held_by, limits_of}
use Rattle.request_cards.specs.Trade.{outcome}
use Rattle.request_cards.proofs.Tables.{next-number, state-after, within-after, within-entry}
use Rattle.request_cards.proofs.ledger.Ledger.word_on.Goals as goal

pub returns-in-Settled : goal.returns-in-Settled
returns-in-Settled c =
    let l = c.args.self.now in
    let a = c.args.request.now in
    record {
      word = ap (λ (s : Standing). word_on s (outcome (held_by l).ledger.cards l.top a.body).0) (sym c.in-Settled.is
          ∙ c.standing.ensures.exact);
      after = sym (ap (λ (b : Bool). if b then (applied l.top (held_by l) a) else (held_by l))
          (sym c.standing.ensures.new ∙ ap is_new c.in-Settled.is));
      limits = refl;
      within = c.requires.within;
    }

pub next_card-card-requires-clause-entry : goal.next_card-card-requires-clause-entry
next_card-card-requires-clause-entry c =
    within-entry c.args.self.now c.requires.within c.args.request.now c.requires.ask c.decide-outcome.result
    c.decide-outcome.ensures.rule

pub next_card-card-requires-clause-next : goal.next_card-card-requires-clause-next
next_card-card-requires-clause-next c =
    next-number c.args.self.now c.args.request.now (sym c.standing.ensures.new ∙ ap is_new c.in-New.is)

pub returns-in-New : goal.returns-in-New
returns-in-New c =
    let l = c.args.self.now in
    let a = c.args.request.now in
    let o = c.decide-outcome.result in
    let rule = c.decide-outcome.ensures.rule in
    let card = c.answered.ensures in
    let made = c.next_card-card.ensures in
    record {
      word = ap (λ (x : Outcome). Kept x.answer) rule
          ∙ ap (λ (s : Standing). word_on s (outcome (held_by l).ledger.cards l.top a.body).0) (sym c.in-New.is
          ∙ c.standing.ensures.exact);
      after = state-after l c.requires.within a c.requires.ask o rule c.renew.new.self c.renew.ensures.limits
          c.answered.result c.renew.ensures.state
          (sym c.standing.ensures.new ∙ ap is_new c.in-New.is)
          (ap (λ (x : Card). x.newest) card ∙ ap (λ (x : Card). x.newest) made)
          (ap (λ (x : Card). x.second) card ∙ ap (λ (x : Card). x.second) made);
      limits = c.renew.ensures.limits;
      within = within-after l c.requires.within a c.requires.ask o rule c.renew.new.self c.renew.ensures.limits
          c.answered.result c.renew.ensures.state;
    }
