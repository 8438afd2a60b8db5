use Rattle.std.proofs.Common.{arith, ap, ◌-◌, ◌∙◌, set, ℕ}
use Rattle.std.specs.Prelude.{Some}
use Rattle.request_cards.specs.Tables.{nth}
use Rattle.request_cards.proofs.Tables.{nth-set}
use Rattle.request_cards.proofs.ledger.renew_till.Goals as goal

pub returns : goal.returns
returns c =
    ap (λ (n : ℕ). nth (set c.args.requests.now (n - 1) (Some c.args.card))) c.from.ensures
    ∙ nth-set c.args.requests.now c.args.till (Some c.args.card) c.requires.low
    (omega (arith, c.requires.high, c.told-requests))
