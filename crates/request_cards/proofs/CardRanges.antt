-- The ranges of cards, entries and bodies: the functions that test them decide them.
use Rattle.std.proofs.Common.{◌≡◌, ℕ, ◌+◌, Bool, true, false, refl, arith, Option, Some, None, inl, inr}
use Rattle.std.specs.Prelude.{IfSome, IsTrue, not}
use Rattle.std.specs.Bool.{Decides}
use Rattle.std.proofs.lemmas.Bool.{and_parts}
use Rattle.std.proofs.lemmas.Bool.Decides.{Decides-and, Decides-eqb}
use Rattle.request_cards.specs.declared.answer.Answer.{Answer}
use Rattle.request_cards.specs.declared.kind.Kind.TheVariants.{Move}
use Rattle.request_cards.specs.Requests.{Body, IsBody, is_body, may_go_to, same_kind}
use Rattle.request_cards.specs.Ledgers.{Entry}
use Rattle.request_cards.specs.CardTexts.{Card, IsCard, IsEntry, IsStock, Stock, answer_quantity, answer_to_quantity}
use Rattle.request_cards.specs.CardTexts.{goes_with, is_done}
use Rattle.request_cards.specs.CardReading.{is_entry, is_second, is_intent, is_new_card, is_old_card, is_stock}
use Rattle.line_text.proofs.lemmas.digits.Fields.{Decides-leb}

-- the ranges of a stock card
pub stock_decides : (s : Stock) → Decides (is_stock s) (IsStock s)
stock_decides s =
    let d = Decides-and _ _ (Decides-leb 1 s.item) (Decides-and _ _ (Decides-leb s.item 65535)
    (Decides-leb s.quantity 999999999)) in (
      (λ e. let p = d.0 e in record { item_low = p.0; item_high = p.1.0; quantity_high = p.1.1 }),
      (λ i. d.1 (i.item_low, (i.item_high, i.quantity_high))),
    )

-- the ranges of a body and of an entry
self_decides : (b : Bool) → Decides b (IsTrue b)
self_decides b = ((λ e. e), (λ e. e))

body_decides : (b : Body) → Decides (is_body b) (IsBody b)
body_decides b =
    let d = Decides-and _ _ (Decides-leb 1 b.item) (Decides-and _ _ (Decides-leb b.item 65535)
    (Decides-and _ _ (Decides-leb b.quantity 999999999) (self_decides (may_go_to b.kind b.item b.to)))) in (
      (λ e. let p = d.0 e in record { item_low = p.0; item_high = p.1.0; quantity_high = p.1.1.0; to = p.1.1.1 }),
      (λ i. d.1 (i.item_low, (i.item_high, (i.quantity_high, i.to)))),
    )

entry_decides : (e : Entry) → Decides (is_entry e) (IsEntry e)
entry_decides e =
    let d = Decides-and _ _ (Decides-leb 1 e.number) (Decides-and _ _ (Decides-leb e.number 999999999)
    (Decides-and _ _ (body_decides e.body) (Decides-and _ _ (self_decides (goes_with e.body.kind e.answer))
    (Decides-and _ _ (Decides-leb (answer_quantity e.answer) 999999999) (Decides-leb (answer_to_quantity e.answer)
    999999999))))) in (
      (λ t. let p = d.0 t in record {
        number_low = p.0;
        number_high = p.1.0;
        body = p.1.1.0;
        fits = p.1.1.1.0;
        quantity_high = p.1.1.1.1.0;
        to_quantity_high = p.1.1.1.1.1;
      }),
      (λ i. d.1 (i.number_low, (i.number_high, (i.body, (i.fits, (i.quantity_high, i.to_quantity_high)))))),
    )

-- what is asked of an intent and of a second entry
intent_decides : (p : Bool) (a : Answer) → Decides (is_intent p a) (IsTrue p → IsTrue (is_done a))
intent_decides true a = ((λ e t. e), (λ f. f refl))
intent_decides false a = ((λ e t. cc), (λ f. refl))

second_decides : (n : ℕ) (s : Option Entry) → Decides (is_second n s) (IfSome s (λ e. IsEntry e × (e.number + 1 ≡ n)))
second_decides n None = ((λ e. tt), (λ i. refl))
second_decides n (Some e) = Decides-and _ _ (entry_decides e) (Decides-eqb (e.number + 1) n)

new_decides : (c : Card) → Decides (is_new_card c)
    (IsEntry c.newest × ((IsTrue c.pending → IsTrue (is_done c.newest.answer))
    × IfSome c.second (λ e. IsEntry e × (e.number + 1 ≡ c.newest.number))))
new_decides c =
    Decides-and _ _ (entry_decides c.newest)
    (Decides-and _ _ (intent_decides c.pending c.newest.answer) (second_decides c.newest.number c.second))

-- the ranges of a version 2 card
pub new_is : (c : Card) → c.version ≡ 2 → is_new_card c ≡ true → IsCard c
new_is c two e =
    let p = (new_decides c).0 e in
    record {
      version = inr two;
      old = λ one. absurd (omega (arith, two, one));
      newest = p.0;
      intent = p.1.0;
      second = p.1.1;
    }

pub card_fits : (c : Card) → IsCard c → is_new_card c ≡ true
card_fits c i = (new_decides c).1 (i.newest, (i.intent, i.second))

-- those of a version 1 card
pub old_is : (c : Card) → c.version ≡ 1 → c.second ≡ None → is_old_card c ≡ true → IsCard c
old_is c one alone e =
    let q = and_parts (is_new_card c) (not (same_kind c.newest.body.kind Move)) e in
    let p = (new_decides c).0 q.0 in
    record {
      version = inl one;
      old = λ v. (alone, q.1);
      newest = p.0;
      intent = p.1.0;
      second = p.1.1;
    }
