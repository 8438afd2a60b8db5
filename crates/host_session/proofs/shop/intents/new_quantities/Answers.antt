-- Only a move is answered by two quantities.
use Rattle.std.proofs.Common.{ap, sym, subst, ◌≡◌, ◌∙◌}
use Rattle.std.specs.Prelude.{IfSome, is_some}
use Rattle.request_cards.specs.CardTexts.{ask_of}
use Rattle.request_cards.specs.Requests.{Ask, to_of}
use Rattle.host_session.proofs.lemmas.judging.NewResults.{moved-to}
use Rattle.host_session.proofs.shop.intents.new_quantities.Goals as goal

pub unwrap-requires : goal.unwrap-requires
unwrap-requires c =
    let same : c.unwrap-request.result ≡ ask_of c.args.till c.args.card.now.newest =
    subst (λ o. IfSome o (λ r. r ≡ ask_of c.args.till c.args.card.now.newest)) c.unwrap-request.ensures
    c.request.ensures.some in
    ap is_some (c.to.ensures.value ∙ ap (λ (a : Ask). to_of a.body) same
    ∙ moved-to c.args.card.now c.in-Moved.quantity c.in-Moved.to_quantity c.requires.fits (sym c.answer.ensures
    ∙ c.in-Moved.is))
