-- A version 1 card is read exactly where its parts stand.
use Rattle.std.proofs.Common.{◌≡◌, [], sym, ◌∙◌, subst, refl, false, true, append-nil}
use Rattle.std.specs.Prelude.{replicate}
use Rattle.request_cards.specs.CardTexts.{IsCard, IsCardText}
use Rattle.request_cards.proofs.CardReading.{old_same}
use Rattle.request_cards.proofs.Cards.{old_card_cut, old_whole}
use Rattle.request_cards.proofs.Widths.{both_then, none_then}
use Rattle.request_cards.proofs.request_card.RequestCard.read_v1.Goals as goal

pub returns-then-not-zeros_at-clause-none : goal.returns-then-not-zeros_at-clause-none
returns-then-not-zeros_at-clause-none c = λ card one m.
    let no : false ≡ true = c.if-not-zeros_at.ensures.none [] ((old_card_cut c.args.bytes.now card m.1 one).1
    ∙ sym (append-nil (replicate 85 0))) in cc

pub returns-clause-found : goal.returns-clause-found
returns-clause-found c =
    both_then c.made.result _ _ (IsCardText c.args.bytes.now) c.made.ensures.some c.made.ensures.range
    (λ card same is. (
      is,
      old_whole c.args.bytes.now c.in_ok-pending.pending c.in_ok-pending.newest card c.told-bytes
          c.in_ok-pending.ensures.found (c.if-not-zeros_at.ensures.found refl) same,
    ))

pub returns-clause-none : goal.returns-clause-none
returns-clause-none c = none_then c.made.result _ _ c.made.ensures.none (λ out card one m.
    let same = old_same c.args.bytes.now c.in_ok-pending.pending c.in_ok-pending.newest c.in_ok-pending.ensures.found
    c.in_ok-pending.ensures.range c.in_ok-pending.ensures.plain card m one in
    out (subst IsCard (sym same) m.0))
