-- What a session knows of its till's next request, and what it stands on once that is answered.
use Rattle.std.proofs.Common.{◌≡◌, inl, inr, true, false, Bool, sym, ◌∙◌, ap, subst}
use Rattle.std.proofs.lemmas.Bool.{false≢true}
use Rattle.d64_image.specs.Images.{Image}
use Rattle.request_cards.specs.declared.answer.Answer.{Answer}
use Rattle.request_cards.specs.declared.decision.Outcome.{Outcome}
use Rattle.request_cards.specs.CardTexts.{Card, IsEntry, is_done}
use Rattle.request_cards.specs.Ledgers.{Start, applied, entry_of, next_in}
use Rattle.request_cards.specs.declared.ledger.Ledger.{Ledger}
use Rattle.request_cards.specs.Requests.{Ask, IsAsk}
use Rattle.host_session.specs.shop.Files.{Files, HasFiles}
use Rattle.host_session.specs.session.Keeping.{IsEither, IsKeeping, answer_of, shop_after}
use Rattle.host_session.specs.shop.Shop.{IsSettled, shop_of, start_of}
use Rattle.host_session.specs.session.Standing.{IsStanding}
use Rattle.request_cards.specs.Tables.{card_with, held_by, limits_of, nth, renewed, traded}
use Rattle.request_cards.proofs.Tables.{renewed-applied}
use Rattle.host_session.proofs.lemmas.session.NextCards.{keeping-next, next-entry}

module _ (img : Image) (dead : Bool) (l : Ledger) (v : IsStanding img dead l) where
  module _ (alive : dead ≡ false) (a : Ask) (ask : IsAsk a) (next : next_in (start_of v.shop) v.shop.state a ≡ true)
    where
      state : held_by l ≡ v.shop.state
      state = v.state_is alive

      -- what the tables decide is what the trade rule answers in the shop
      pub standing-answer : (o : Outcome) → o ≡ traded (nth l.cards) l.top a.body → o.answer ≡ answer_of v.shop a
      standing-answer o is = ap (λ (x : Outcome). x.answer) is
          ∙ (λ i. (traded ((state i).ledger.cards) (v.top_is i) a.body).answer)

      pub standing-entry : (o : Outcome) → o ≡ traded (nth l.cards) l.top a.body → IsEntry (entry_of (a, o.answer))
      standing-entry o is = subst (λ (x : Answer). IsEntry (entry_of (a, x))) (sym (standing-answer o is))
          (next-entry img v.shop (v.settled alive) a ask)

      -- the till's next card is to be kept
      pub standing-keeping : (o : Outcome) → o ≡ traded (nth l.cards) l.top a.body → (c : Card)
          → c ≡ card_with (nth l.requests a.till) a o.answer
          → (f : Files) × HasFiles img f × (shop_of f ≡ v.shop) × IsKeeping f a c
      standing-keeping o is c e = keeping-next img v.shop (v.settled alive) a ask next c
          (e ∙ (λ i. record {
            version = 2;
            pending = is_done (same i);
            newest = entry_of (a, same i);
            second =
                (state i).ledger.kept a.till;
          }))
        where
          same : o.answer ≡ answer_of v.shop a
          same = standing-answer o is

      -- the session stands on the shop after it
      pub standing-after : (now : Image) (m : Ledger) (o : Outcome) (c d : Card)
          → o ≡ traded (nth l.cards) l.top a.body → c ≡ card_with (nth l.requests a.till) a o.answer
          → d ≡ record c { pending = false } → held_by m ≡ renewed (held_by l) a o d → limits_of m ≡ limits_of l
          → IsSettled now (shop_after v.shop a) → IsStanding now dead m
      standing-after now m o c d is e answered new limits x = record {
        shop = shop_after v.shop a;
        is_shop = x.shop;
        top_is = ap (λ (s : Start). s.top) limits ∙ v.top_is;
        tills_is = ap (λ (s : Start). s.tills) limits ∙ v.tills_is;
        settled = λ _. x;
        state_is = λ _. new ∙ renewed-applied l.top (held_by l) a o d is
            (ap (λ (y : Card). y.newest) answered ∙ ap (λ (y : Card). y.newest) e)
            (ap (λ (y : Card). y.second) answered ∙ ap (λ (y : Card). y.second) e)
            ∙ (λ i. applied (v.top_is i) (state i) a);
      }

  -- a dead session stands on the one before or the one after
  pub standing-dead : (a : Ask) (now : Image) → IsEither v.shop a now → IsStanding now true l
  standing-dead a now (inl x) = record {
    shop = v.shop;
    is_shop = x;
    top_is = v.top_is;
    tills_is = v.tills_is;
    settled = λ e. absurd (false≢true (sym e));
    state_is = λ e. absurd (false≢true (sym e));
  }
  standing-dead a now (inr x) = record {
    shop = shop_after v.shop a;
    is_shop = x;
    top_is = v.top_is;
    tills_is = v.tills_is;
    settled = λ e. absurd (false≢true (sym e));
    state_is = λ e. absurd (false≢true (sym e));
  }
