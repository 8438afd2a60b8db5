use Rattle.std.proofs.Common.{ap, sym, ◌∙◌}
use Rattle.request_cards.specs.Ledgers.{State}
use Rattle.host_session.specs.session.Standing.{View}
use Rattle.host_session.proofs.lemmas.shop.Shops.{standing-state}
use Rattle.host_session.proofs.session.Session.card.Goals as goal

pub returns-clause-ok : goal.returns-clause-ok
returns-clause-ok g c = λ s h. c.on_hand.ensures.value ∙ ap (λ (t : State). t.ledger.cards c.args.item)
    (standing-state _ _ _ _ (sym (ap (λ (v : View _). g.D.Sectors.history.image v.disk) c.self.view_is))
    c.self.invariant.0 c.if-self.false s h)
