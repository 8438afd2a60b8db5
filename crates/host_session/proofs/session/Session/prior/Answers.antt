-- The ledger holds the state of the session's shop.
use Rattle.std.proofs.Common.{ap, sym, ◌∙◌}
use Rattle.std.specs.Prelude.{option_map}
use Rattle.request_cards.specs.Ledgers.{State}
use Rattle.request_cards.specs.Tables.{told_of}
use Rattle.host_session.specs.session.Standing.{View}
use Rattle.host_session.proofs.lemmas.shop.Shops.{standing-state}
use Rattle.host_session.proofs.session.Session.prior.Goals as goal

pub returns-clause-ok : goal.returns-clause-ok
returns-clause-ok g c = λ s h. c.prior.ensures ∙ ap (λ (t : State). option_map (told_of c.args.till) (t.prior c.args.till))
    (standing-state _ _ _ _ (sym (ap (λ (v : View _). g.D.Sectors.history.image v.disk) c.self.view_is))
    c.self.invariant.0 c.if-self.false s h)
