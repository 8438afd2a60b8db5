-- The answer of an intent is written: none is open any more, and it is the same shop.
use Rattle.std.proofs.Common.{ℕ, ◌≡◌, ◌≤◌, ◌+◌, inl, inr, List, [], ◌∷◌, Ok, Err, Result, Some, length, refl, sym, ◌∙◌}
use Rattle.std.proofs.Common.{◌++◌, ap, subst, arith}
use Rattle.std.specs.Prelude.{IfNone, IfSome, OnOk, Option, None, is_some}
use Rattle.std.proofs.lemmas.Bool.{false≢true}
use Rattle.d64_image.specs.History.{History}
use Rattle.host_session.specs.Held.{Changes}
use Rattle.d64_image.specs.Images.{Image}
use Rattle.host_session.proofs.lemmas.Held.{changes_then, changes_weaker}
use Rattle.request_cards.proofs.CardReading.{card_is}
use Rattle.request_cards.specs.CardReading.{request_card_of}
use Rattle.request_cards.specs.declared.answer.Answer.{Answer}
use Rattle.request_cards.specs.declared.answer.Answer.TheVariants as answers
use Rattle.request_cards.specs.Requests.{Body}
use Rattle.request_cards.specs.CardTexts.{Card, IsCard, card_text}
use Rattle.host_session.specs.shop.Completing.{HasIntent, HasResults, IsCompleted, answered_card}
use Rattle.host_session.specs.shop.LoadedShop.{listed, pair_in}
use Rattle.host_session.specs.declared.shop.intents.NewQuantities.{NewQuantities}
use Rattle.host_session.specs.shop.Files.{Files, with_record}
use Rattle.host_session.specs.shop.Putting.{HasAnswer, IsPuttingAnswer}
use Rattle.host_session.specs.shop.Shop.{IsShop, results_in, shop_of}
use Rattle.host_session.proofs.lemmas.shop.Lists.{record-within}
use Rattle.host_session.proofs.lemmas.shop.Moments.{answered-cards, answered-intents, answered-state}
use Rattle.host_session.proofs.lemmas.shop.Steps.{tills-same}

-- the card of an intent once it is answered is a card, and its text is read as that
answered-fits : (c : Card) → IsCard c → IsCard (answered_card c)
answered-fits c h = record {
  version = inr refl;
  old = λ e. absurd (omega (arith, e));
  newest = h.newest;
  intent = λ e. absurd (false≢true e);
  second = h.second;
}

pub answered-read : (c : Card) → IsCard c → request_card_of (card_text (answered_card c)) ≡ Some (answered_card c)
answered-read c h = (card_is (card_text (answered_card c)) (answered_card c)).1 (answered-fits c h, refl)

-- the answer: no intent is open any more, and it is the same shop
pub completed : (f : Files) (till : ℕ) (c : Card) (x : HasIntent f till c) → IsCard c
    → (mid : Image) (r : HasResults f c mid) (img : Image)
    → HasAnswer (record f { stock = r.stock; blocks = r.blocks }) till (card_text (answered_card c)) img
    → IsCompleted f till c img
completed f till c x fits mid r img has =
    let reads : request_card_of (card_text (answered_card c)) ≡ Some (answered_card c) = answered-read c fits in
    record {
      stock = r.stock;
      blocks = r.blocks;
      has = has;
      records = answered-cards r.stock f.requests till x.was (card_text (answered_card c)) c (answered_card c) x.high
          x.here x.reads reads x.is_open refl refl refl r.records r.written;
      same = answered-state r.stock f.requests till x.was (card_text (answered_card c)) c (answered_card c) x.high
          x.here x.reads reads x.is_open refl refl refl r.records r.written ∙ r.same;
      no_intent = answered-intents r.stock f.requests till x.was (card_text (answered_card c)) c (answered_card c)
          x.high x.here x.reads reads x.is_open refl refl refl r.records r.written;
    }

-- it is the same shop
unfoldable pub completed-shop : (f : Files) (till : ℕ) (c : Card) (img : Image) → IsCompleted f till c img
    → IsShop img (shop_of f)
completed-shop f till c img k = record {
  files = record f {
    stock = k.stock;
    requests = with_record f.requests till (card_text (answered_card c));
    blocks =
        k.blocks;
  };
  has = k.has;
  records = k.records;
  is = λ i. record (shop_of f) { state = k.same i; tills = tills-same f.requests till (card_text (answered_card c)) i };
}

-- an intent is a card, and its till's record is there
pub intent-fits : (f : Files) (till : ℕ) (c : Card) → HasIntent f till c → IsCard c
intent-fits f till c x = ((card_is x.was c).0 x.reads).0

pub till-there : (f : Files) (till : ℕ) (c : Card) → HasIntent f till c → till ≤ length f.requests
till-there f till c x = (record-within f.requests till (ap is_some x.here)).1

-- The cards are written, and then the answer.
module _ (f : Files) (till : ℕ) (c : Card) (x : HasIntent f till c) (mid : Image) (r : HasResults f c mid)
    (text : List ℕ) (is : text ≡ card_text (answered_card c)) where
  answer-completed : (img : Image) → HasAnswer (record f { stock = r.stock; blocks = r.blocks }) till text img
      → IsCompleted f till c img
  answer-completed img h = completed f till c x (intent-fits f till c x) mid r img
      (subst (λ (t : List ℕ). HasAnswer (record f { stock = r.stock; blocks = r.blocks }) till t img) is h)

  pub completing-ok : {T E : Type 0} (img : Image) (res : Result T E)
      → OnOk res (HasAnswer (record f { stock = r.stock; blocks = r.blocks }) till text img)
      → OnOk res (IsCompleted f till c img)
  completing-ok img (Ok _) h = answer-completed img h
  completing-ok img (Err _) h = tt

  answering-shop : (img : Image) → IsPuttingAnswer (record f { stock = r.stock; blocks = r.blocks }) till text img
      → IsShop img (shop_of f)
  answering-shop img (inl has) = record {
    files = record f { stock = r.stock; blocks = r.blocks };
    has = has;
    records = r.records;
    is = λ i. record (shop_of f) { state = r.same i };
  }
  answering-shop img (inr has) = completed-shop f till c img (answer-completed img has)

  pub completing-moments : {D : Type 0} (S : History D) (a b d : D) (k : ℕ)
      → Changes S a b k (λ i. IsShop i (shop_of f))
      → Changes S b d 1 (IsPuttingAnswer (record f { stock = r.stock; blocks = r.blocks }) till text)
      → Changes S a d (k + 1) (λ i. IsShop i (shop_of f))
  completing-moments S a b d k cards answer = changes_then S a b d k 1 (k + 1) (λ i. IsShop i (shop_of f)) (omega arith)
      cards
      (changes_weaker S b d 1 1 _ _ (omega arith) answering-shop answer)

-- what holds of a value, where there is this one
pub some-of : {X : Type 0} (P : X → Type 0) (o : Option X) (x : X) → o ≡ Some x → IfSome o P → P x
some-of {X = X} P o x e h = subst (λ (y : Option X). IfSome y P) e h

abbrev first_in : List (ℕ × ℕ) → ℕ × ℕ
first_in [] = (0, 0)
first_in (q ∷ qs) = q

abbrev second_in : List (ℕ × ℕ) → ℕ × ℕ
second_in [] = (0, 0)
second_in (q ∷ qs) = first_in qs

-- what new quantities tell of the answer that gives them
module _ (b : Body) (item q : ℕ) where
  pub done-of : (a : Answer) → results_in b a ≡ (item, q) ∷ [] → (item ≡ b.item) × (a ≡ answers.Done q)
  done-of (answers.Done h) e =
      let same : (b.item, h) ≡ (item, q) = ap first_in e in
      (sym (ap (λ (p : ℕ × ℕ). p.0) same), ap (λ (p : ℕ × ℕ). answers.Done p.1) same)
  done-of (answers.Moved h p) e = absurd (omega (arith, ap length e))
  done-of (answers.Short h) e = absurd (omega (arith, ap length e))
  done-of (answers.Over h) e = absurd (omega (arith, ap length e))
  done-of answers.NoCard e = absurd (omega (arith, ap length e))
  done-of answers.DiskFull e = absurd (omega (arith, ap length e))
  done-of answers.TooLarge e = absurd (omega (arith, ap length e))

  pub moved-of : (to p : ℕ) (a : Answer) → results_in b a ≡ (item, q) ∷ (to, p) ∷ [] → (item ≡ b.item) × (to ≡ b.to)
      × (a ≡ answers.Moved q p)
  moved-of to p (answers.Moved h g) e =
      let same : (b.item, h) ≡ (item, q) = ap first_in e in
      let same' : (b.to, g) ≡ (to, p) = ap second_in e in (
        sym (ap (λ (r : ℕ × ℕ). r.0) same),
        sym (ap (λ (r : ℕ × ℕ). r.0) same'),
        λ i. answers.Moved (same i).1
            (same' i).1,
      )
  moved-of to p (answers.Done h) e = absurd (omega (arith, ap length e))
  moved-of to p (answers.Short h) e = absurd (omega (arith, ap length e))
  moved-of to p (answers.Over h) e = absurd (omega (arith, ap length e))
  moved-of to p answers.NoCard e = absurd (omega (arith, ap length e))
  moved-of to p answers.DiskFull e = absurd (omega (arith, ap length e))
  moved-of to p answers.TooLarge e = absurd (omega (arith, ap length e))

-- new quantities, one after the other
module _ (x : NewQuantities) (rs : List (ℕ × ℕ)) (all : listed x ≡ rs) where
  pub none-in : x.first ≡ None → IfNone x.first (x.second ≡ None) → rs ≡ []
  none-in first order =
      let second : x.second ≡ None = subst (λ (o : Option (ℕ × ℕ)). IfNone o (x.second ≡ None)) first order in
      sym all ∙ (λ i. pair_in (first i) ++ pair_in (second i))

  pub one-in : (q : ℕ × ℕ) → x.first ≡ Some q → x.second ≡ None → rs ≡ q ∷ []
  one-in q first second = sym all ∙ (λ i. pair_in (first i) ++ pair_in (second i))

  pub two-in : (q p : ℕ × ℕ) → x.first ≡ Some q → x.second ≡ Some p → rs ≡ q ∷ p ∷ []
  two-in q p first second = sym all ∙ (λ i. pair_in (first i) ++ pair_in (second i))
