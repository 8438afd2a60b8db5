-- The tables stand for the shop: so the card is the till's next one, and the tables after it stand for the shop after
-- it.
use Rattle.std.proofs.Common.{ap, sym, ◌∙◌}
use Rattle.std.proofs.lemmas.Bool.{false≢true}
use Rattle.request_cards.specs.Tables.{nth}
use Rattle.host_session.proofs.lemmas.session.Answered.{answers-after, answers-dead, known-entry}
use Rattle.host_session.proofs.lemmas.session.Answered.{known-keeping, known-number, ready-after, stands-after}
use Rattle.host_session.proofs.lemmas.session.Answered.{stands-dead}
use Rattle.host_session.proofs.session.Session.answer.Goals as goal

pub store_answer-requires-clause-ready : goal.store_answer-requires-clause-ready
store_answer-requires-clause-ready g c = c.self.invariant.1 (ap (λ d. d.dead) c.self.view_is ∙ c.requires.alive)

pub renew-requires-clause-item : goal.renew-requires-clause-item
renew-requires-clause-item g c = c.decide-outcome.ensures.item

pub renew-requires-clause-to : goal.renew-requires-clause-to
renew-requires-clause-to g c = c.decide-outcome.ensures.to

pub next_card-card-requires-clause-entry : goal.next_card-card-requires-clause-entry
next_card-card-requires-clause-entry g c =
    known-entry g.D.Sectors.history c.self.inside.drive c.args.self.now c.self.inside.dead c.self.inside.ledger
    c.self.view_is c.self.invariant.0 c.args.request.now c.requires.ask c.requires.alive c.requires.next
    c.decide-outcome.result c.decide-outcome.ensures.rule

pub next_card-card-requires-clause-next : goal.next_card-card-requires-clause-next
next_card-card-requires-clause-next g c =
    known-number g.D.Sectors.history c.self.inside.drive c.args.self.now c.self.inside.dead c.self.inside.ledger
    c.self.view_is c.self.invariant.0 c.args.request.now c.requires.ask c.requires.alive c.requires.next

pub store_answer-requires-clause-keeping : goal.store_answer-requires-clause-keeping
store_answer-requires-clause-keeping g c =
    known-keeping g.D.Sectors.history c.self.inside.drive c.args.self.now c.self.inside.dead c.self.inside.ledger
    c.self.view_is c.self.invariant.0 c.args.request.now c.requires.ask c.requires.alive c.requires.next
    c.decide-outcome.result c.decide-outcome.ensures.rule
    c.next_card-card.result c.next_card-card.ensures c.on_hand-before.result
    (c.on_hand-before.ensures.value ∙ ap (nth c.self.inside.ledger.cards) c.item.ensures.value)

pub invariant_of-self : goal.invariant_of-self
invariant_of-self g c = (
  stands-dead g.D.Sectors.history c.self.inside.drive c.args.self.now c.self.inside.dead c.self.inside.ledger
      c.self.view_is c.self.invariant.0 c.args.request.now c.requires.ask c.requires.alive c.requires.next
      c.decide-outcome.result c.decide-outcome.ensures.rule
      c.next_card-card.result c.next_card-card.ensures c.on_hand-before.result
      (c.on_hand-before.ensures.value ∙ ap (nth c.self.inside.ledger.cards) c.item.ensures.value)
      c.store_answer.new.drive c.store_answer.result c.store_answer.ensures.puts c.store_answer.ensures.counted c.store_answer.ensures.refused
      c.store_answer.ensures.onward,
  λ e. absurd (false≢true (sym e)),
)

pub returns-in_default : goal.returns-in_default
returns-in_default g c =
    answers-dead g.D.Sectors.history c.self.inside.drive c.args.self.now c.self.inside.dead c.self.inside.ledger
    c.self.view_is c.self.invariant.0 c.args.request.now c.requires.ask c.requires.alive c.requires.next
    c.decide-outcome.result c.decide-outcome.ensures.rule
    c.next_card-card.result c.next_card-card.ensures c.on_hand-before.result
    (c.on_hand-before.ensures.value ∙ ap (nth c.self.inside.ledger.cards) c.item.ensures.value)
    c.store_answer.new.drive c.store_answer.result c.store_answer.ensures.puts c.store_answer.ensures.counted c.store_answer.ensures.refused
    c.store_answer.ensures.onward
    c.in_default.field-0 c.in_default.is

pub invariant_of-self-2 : goal.invariant_of-self-2
invariant_of-self-2 g c = (
  stands-after g.D.Sectors.history c.self.inside.drive c.args.self.now c.self.inside.dead c.self.inside.ledger
      c.self.view_is c.self.invariant.0 c.args.request.now c.requires.ask c.requires.alive c.requires.next
      c.decide-outcome.result c.decide-outcome.ensures.rule
      c.next_card-card.result c.next_card-card.ensures c.on_hand-before.result
      (c.on_hand-before.ensures.value ∙ ap (nth c.self.inside.ledger.cards) c.item.ensures.value)
      c.store_answer.new.drive c.store_answer.result c.store_answer.ensures.puts c.store_answer.ensures.counted c.store_answer.ensures.refused
      c.store_answer.ensures.onward
      c.in-Ok.field-0 c.in-Ok.is c.answered.result c.answered.ensures _ c.renew.ensures.state c.renew.ensures.limits,
  λ _. ready-after g.D.Sectors.history c.self.inside.drive c.args.self.now c.self.inside.dead c.self.inside.ledger
      c.self.view_is c.self.invariant.0 c.args.request.now c.requires.ask c.requires.alive c.requires.next
      c.decide-outcome.result c.decide-outcome.ensures.rule
      c.next_card-card.result c.next_card-card.ensures c.on_hand-before.result
      (c.on_hand-before.ensures.value ∙ ap (nth c.self.inside.ledger.cards) c.item.ensures.value)
      c.store_answer.new.drive c.store_answer.result c.store_answer.ensures.puts c.store_answer.ensures.counted c.store_answer.ensures.refused
      c.store_answer.ensures.onward
      c.in-Ok.field-0 c.in-Ok.is,
)

pub returns : goal.returns
returns g c =
    answers-after g.D.Sectors.history c.self.inside.drive c.args.self.now c.self.inside.dead c.self.inside.ledger
    c.self.view_is c.self.invariant.0 c.args.request.now c.requires.ask c.requires.alive c.requires.next
    c.decide-outcome.result c.decide-outcome.ensures.rule
    c.next_card-card.result c.next_card-card.ensures c.on_hand-before.result
    (c.on_hand-before.ensures.value ∙ ap (nth c.self.inside.ledger.cards) c.item.ensures.value)
    c.store_answer.new.drive c.store_answer.result c.store_answer.ensures.puts c.store_answer.ensures.counted c.store_answer.ensures.refused
    c.store_answer.ensures.onward
    c.in-Ok.field-0 c.in-Ok.is
