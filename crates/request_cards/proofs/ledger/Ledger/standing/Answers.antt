-- What is kept of the till stands on its card.
use Rattle.std.proofs.Common.{ap, ap₂, ◌∙◌, ◌+◌}
use Rattle.std.specs.Prelude.{Option, ◌&&◌, ◌==◌, nat_le}
use Rattle.request_cards.specs.Ledgers.{Entry, number_of, standing}
use Rattle.request_cards.specs.Tables.{held_by}
use Rattle.request_cards.proofs.Tables.{told-here}
use Rattle.request_cards.proofs.ledger.Ledger.standing.Goals as goal

pub returns : goal.returns
returns c =
    let l = c.args.self.now in
    let a = c.args.request.now in
    let last = told-here c.kept.result a.till c.till-till.result (held_by l).ledger.kept c.till-till.ensures.value c.kept.ensures in
    let before = told-here c.prior.result a.till c.till-till.result (held_by l).prior c.till-till.ensures.value c.prior.ensures in
    record {
      exact = c.standing_of.ensures.exact ∙ ap₂ (λ (x y : Option Entry). standing l.tills x y a) last before;
      new = c.standing_of.ensures.new
          ∙ ap (λ (x : Option Entry). nat_le a.till l.tills && a.number == number_of x + 1) last;
    }
