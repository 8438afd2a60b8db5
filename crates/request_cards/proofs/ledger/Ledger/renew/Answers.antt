use Rattle.std.proofs.Common.{ap, ◌∙◌, ℕ}
use Rattle.std.specs.Prelude.{Some}
use Rattle.request_cards.specs.Tables.{nth}
use Rattle.request_cards.specs.Trade.{cards_after, put}
use Rattle.request_cards.proofs.Tables.{tables-renewed}
use Rattle.request_cards.proofs.ledger.Ledger.renew.Goals as goal

pub returns-clause-state : goal.returns-clause-state
returns-clause-state c =
    let o = c.args.outcome.now in
    let l = c.args.self.now in
    tables-renewed l.cards c.renew_quantity.new.cards c.renew_quantity-2.new.cards l.requests
    c.renew_till.new.requests c.args.request.now o c.args.card
    (c.renew_quantity.ensures ∙ ap (λ (n : ℕ). cards_after (nth l.cards) n o.quantity) c.item.ensures.value)
    (c.renew_quantity-2.ensures ∙ ap (λ (n : ℕ). cards_after (nth c.renew_quantity.new.cards) n o.to_quantity)
    (c.unwrap_or-to.ensures ∙ c.to.ensures.number))
    (c.renew_till.ensures ∙ ap (λ (n : ℕ). put (nth l.requests) n (Some c.args.card)) c.till.ensures.value)
