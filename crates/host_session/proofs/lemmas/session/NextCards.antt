-- The card of a till's next request on a disk at rest, and what else is known of a message.
use Rattle.std.proofs.Common.{◌≡◌, ℕ, zero, suc, ◌≤◌, ◌+◌, true, List, [], ◌∷◌, length, map, take, Option, Some, None}
use Rattle.std.proofs.Common.{inr, refl, sym, ◌∙◌, ap, arith, subst}
use Rattle.std.specs.Prelude.{IfSome, nat_le, option_map, option_to_list, ◌==◌}
use Rattle.std.proofs.lemmas.Bool.{and_parts, eqb-true, leb-true}
use Rattle.std.proofs.lemmas.List.{length-map, length-take}
use Rattle.std.proofs.lemmas.List.Elements.{All-nil, All-push}
use Rattle.d64_image.specs.Images.{Image}
use Rattle.request_cards.proofs.CardReading.{card_is}
use Rattle.request_cards.proofs.Kept.{answer_is_kept}
use Rattle.request_cards.proofs.Messages.{request_is}
use Rattle.request_cards.proofs.Sums.{sums_hold}
use Rattle.request_cards.specs.CardReading.{request_card_of}
use Rattle.request_cards.specs.CardTexts.{Card, IsCard, IsEntry, is_done}
use Rattle.request_cards.specs.Ledgers.{Entry, Start, entry_of, next_in, number_of}
use Rattle.request_cards.specs.Reading.{request_of}
use Rattle.request_cards.specs.Requests.{Ask, IsAsk}
use Rattle.request_cards.specs.Sums.{SumsAgree}
use Rattle.request_cards.specs.Trade.{room_for}
use Rattle.host_session.specs.shop.Files.{Files, HasFiles}
use Rattle.host_session.specs.session.Keeping.{IsKeeping, answer_of}
use Rattle.host_session.specs.shop.Shop.{IsSettled, Shop, card_at, cards_in, shop_of, start_of}
use Rattle.host_session.proofs.lemmas.session.Decisions.{settled-few}

-- a message that is a request is one within the ranges of the grammar
pub message-ask : (message : List ℕ) (a : Ask) → request_of message ≡ Some a → IsAsk a
message-ask message a e = (request_is message a e).0

-- so no goods appear by a message, and none are lost
pub message-sums : (start : Start) (message : List ℕ) → SumsAgree start (option_to_list (request_of message))
message-sums start message = by (request_of message) refl
  where
    by : (o : Option Ask) → request_of message ≡ o → SumsAgree start (option_to_list o)
    by None e = sums_hold start [] (All-nil IsAsk)
    by (Some a) e = sums_hold start (a ∷ []) (All-push IsAsk [] a (All-nil IsAsk) (message-ask message a e))

-- the answer to a request in a shop at rest can stand on a card
pub next-entry : (img : Image) (s : Shop) → IsSettled img s → (a : Ask) → IsAsk a
    → IsEntry (entry_of (a, answer_of s a))
next-entry img s x a is =
    answer_is_kept a (s.state.ledger.cards a.body.item) (s.state.ledger.cards a.body.to) (room_for s.top a.body.item) is
    (settled-few img s x a.body.item) (settled-few img s x a.body.to)

-- what is read as a till's card is one
read-card : (bytes : List ℕ) → IfSome (request_card_of bytes) IsCard
read-card bytes = by (request_card_of bytes) refl
  where
    by : (o : Option Card) → request_card_of bytes ≡ o → IfSome o IsCard
    by None e = tt
    by (Some c) e = ((card_is bytes c).0 e).0

cards-are : (requests : List (List ℕ)) (till : ℕ) → IfSome (card_at (map request_card_of requests) till) IsCard
cards-are requests zero = tt
cards-are [] (suc n) = tt
cards-are (x ∷ xs) (suc zero) = read-card x
cards-are (x ∷ xs) (suc (suc n)) = cards-are xs (suc n)

-- the entry behind the newest, where the request is the next one
second-fits : (o : Option Card) (number : ℕ) → IfSome o IsCard
    → number ≡ number_of (option_map (λ (c : Card). c.newest) o) + 1
    → IfSome (option_map (λ (c : Card). c.newest) o) (λ (e : Entry). IsEntry e × (e.number + 1 ≡ number))
second-fits None number is e = tt
second-fits (Some c) number is e = (is.newest, sym e)

-- the card that a till is to have in this shop after its next request
abbrev pub next_of : Shop → Ask → Card
next_of s a = record {
  version = 2;
  pending = is_done (answer_of s a);
  newest = record { number = a.number; body = a.body; answer = answer_of s a };
  second = s.state.ledger.kept a.till;
}

module _ (img : Image) (s : Shop) (x : IsSettled img s) (a : Ask) (is : IsAsk a)
    (next : next_in (start_of s) s.state a ≡ true) where
  keeps : (next_in (start_of (shop_of x.shop.files)) (shop_of x.shop.files).state a ≡ true)
      → IsEntry (entry_of (a, answer_of (shop_of x.shop.files) a))
      → IsKeeping x.shop.files a (next_of (shop_of x.shop.files) a)
  keeps next entry =
      let g = x.shop.files in
      let two = and_parts (nat_le a.till (length (cards_in g.requests)))
      (a.number == number_of ((shop_of g).state.ledger.kept a.till) + 1) next in
      let low : a.till ≤ length (cards_in g.requests) = leb-true a.till (length (cards_in g.requests)) two.0 in
      let number : a.number ≡ number_of ((shop_of g).state.ledger.kept a.till) + 1 =
      eqb-true a.number (number_of ((shop_of g).state.ledger.kept a.till) + 1) two.1 in
      record {
        records = x.shop.records;
        no_intent = x.no_intent;
        no_old_card = x.no_old_card;
        till_low = is.till_low;
        till_high = is.till_high;
        till_there = omega (arith, low, length-map (take 64 g.requests) request_card_of, length-take 64 g.requests);
        is_card = record {
          version = inr refl;
          old = λ e. absurd (omega (arith, e));
          newest = entry;
          intent = λ e. e;
          second = second-fits (card_at (cards_in g.requests) a.till) a.number (cards-are (take 64 g.requests) a.till)
              number;
        };
        version = refl;
        newest = refl;
        second = refl;
        pending = refl;
      }

  -- the till's next card may be kept
  pub keeping-next : (c : Card) → c ≡ next_of s a → (g : Files) × HasFiles img g × (shop_of g ≡ s) × IsKeeping g a c
  keeping-next c e =
      let g = x.shop.files in
      let same : s ≡ shop_of g = sym x.shop.is in
      let kept = keeps (subst (λ (t : Shop). next_in (start_of t) t.state a ≡ true) same next)
      (subst (λ (t : Shop). IsEntry (entry_of (a, answer_of t a))) same (next-entry img s x a is)) in (
        g,
        x.shop.has,
        x.shop.is,
        subst (λ (d : Card). IsKeeping g a d) (sym (e ∙ ap (λ (t : Shop). next_of t a) same))
            kept,
      )
