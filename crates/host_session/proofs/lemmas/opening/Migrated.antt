-- A till's card of version 1 is written again.
use Rattle.std.proofs.Common.{ℕ, zero, suc, ◌≡◌, ◌<◌, ◌≤◌, ◌+◌, inl, inr, List, [], ◌∷◌, None, Option, Some, Bool, true}
use Rattle.std.proofs.Common.{false, ap, arith, get_or, length, refl, set, subst, sym, ◌∙◌}
use Rattle.std.specs.Prelude.{cond, is_some}
use Rattle.std.proofs.lemmas.Bool.{cases_eq, or_from, or_parts}
use Rattle.host_session.proofs.lemmas.Held.{changes_weaker}
use Rattle.d64_image.specs.History.{History}
use Rattle.host_session.specs.Held.{Changes}
use Rattle.d64_image.specs.Images.{Image}
use Rattle.request_cards.proofs.CardReading.{card_is}
use Rattle.request_cards.specs.CardReading.{request_card_of}
use Rattle.request_cards.specs.CardTexts.{Card, IsCard, card_text}
use Rattle.request_cards.specs.declared.answer.Answer.{Answer}
use Rattle.request_cards.specs.declared.answer.Answer.TheVariants as answers
use Rattle.request_cards.specs.Requests.{Body}
use Rattle.host_session.specs.shop.Files.{Files, record_at, with_record}
use Rattle.host_session.specs.session.Handling.{card_writes}
use Rattle.host_session.specs.shop.LoadedShop.{HasTills}
use Rattle.host_session.specs.shop.Putting.{HasAnswer, IsPuttingAnswer}
use Rattle.host_session.specs.session.Settling.{HasNewTable}
use Rattle.host_session.specs.shop.Shop.{IsShop, Shop, any_old, cards_in, intents, is_old, open_in, results_in}
use Rattle.host_session.specs.shop.Shop.{results_of, shop_of}
use Rattle.host_session.proofs.lemmas.judging.JudgedTills.{card-record_at, table-intents}
use Rattle.host_session.proofs.lemmas.shop.Lists.{record-within}
use Rattle.host_session.proofs.lemmas.shop.Overlays.{nil_parts, open_in-answered}
use Rattle.host_session.proofs.lemmas.shop.Moments.{card-intents_now}
use Rattle.host_session.proofs.lemmas.shop.Shops.{HasFiles-one}
use Rattle.host_session.proofs.lemmas.writing.PlacedRecords.{card-touched}
use Rattle.host_session.proofs.lemmas.shop.Steps.{step-migrated}
use Rattle.request_cards.specs.Tables.{nth}
use Rattle.request_cards.proofs.Tables.{nth-at, nth-set_other, nth-set_same}
use Rattle.host_session.proofs.lemmas.opening.Recovered.{table-with}

-- whether one of the cards is of version 1
pub any-none : (cs : List (Option Card)) → ((k : ℕ) → is_old (get_or cs k None) ≡ false) → any_old cs ≡ false
any-none [] h = refl
any-none (c ∷ cs) h = or_from (is_old c) (any_old cs) (h 0) (any-none cs (λ k. h (suc k)))

none-old : (cs : List (Option Card)) → any_old cs ≡ false → (k : ℕ) → is_old (get_or cs k None) ≡ false
none-old [] h k = refl
none-old (c ∷ cs) h zero = (or_parts (is_old c) (any_old cs) h).0
none-old (c ∷ cs) h (suc k) = none-old cs (or_parts (is_old c) (any_old cs) h).1 k

pub table-none_old : (table : List (Option Card)) → any_old table ≡ false → (k : ℕ) → is_old (nth table (k + 1)) ≡ false
table-none_old table h k = ap is_old (nth-at table k) ∙ none-old table h k

-- the sector writes of a completed intent
few-writes : (b : Body) (a : Answer) → card_writes (results_in b a) ≤ 4
few-writes b (answers.Done h) = omega (arith, card-touched b.item)
few-writes b (answers.Moved h g) = omega (arith, card-touched b.item, card-touched b.to)
few-writes b (answers.Short h) = omega arith
few-writes b (answers.Over h) = omega arith
few-writes b answers.NoCard = omega arith
few-writes b answers.DiskFull = omega arith
few-writes b answers.TooLarge = omega arith

pub completed-changes : {D : Type 0} (S : History D) (a b : D) (img : Image) (s : Shop) (h : IsShop img s) (c : Card)
    → Changes S a b (card_writes (results_of c.newest) + 1) (λ i. IsShop i (shop_of h.files))
    → Changes S a b 5 (λ i. IsShop i s)
completed-changes S a b img s h c changes = changes_weaker S a b (card_writes (results_of c.newest) + 1) 5
    (λ i. IsShop i (shop_of h.files)) (λ i. IsShop i s)
    (omega (arith, few-writes c.newest.body c.newest.answer)) (λ i x. subst (IsShop i) h.is x) changes

-- a card among which none is an open intent isn't one
closed-at : (cs : List (Option Card)) (k : ℕ) (o : Option Card) → get_or cs k None ≡ o → intents cs ≡ []
    → open_in o ≡ []
closed-at [] k o e none = ap open_in (sym e)
closed-at (c ∷ cs) zero o e none = ap open_in (sym e) ∙ (nil_parts (open_in c) (intents cs) none).0
closed-at (c ∷ cs) (suc k) o e none = closed-at cs k o e (nil_parts (open_in c) (intents cs) none).1

not-open : (b : Bool) (c : Card) → cond b (c ∷ []) [] ≡ [] → b ≡ false
not-open true c e = absurd (omega (arith, ap length e))
not-open false c e = refl

-- the card of version 2 with the same requests
abbrev pub renewed : Card → Card
renewed c = record c { version = 2; second = None }

-- a till's card of version 1 is written again
module _ (img : Image) (s : Shop) (table : List (Option Card)) (k : ℕ) (lt : k < 64) (long : length table ≡ 64)
    (h : HasNewTable img s table k) (c : Card) (at : nth table (k + 1) ≡ Some c) (old : c.version ≡ 1) where
  abbrev pub f : Files
  f = h.closed.has.shop.files

  abbrev text : List ℕ
  text = card_text (renewed c)

  stands : (bytes : List ℕ) × (record_at f.requests (k + 1) ≡ Some bytes) × (request_card_of bytes ≡ Some c)
  stands = card-record_at f.requests (k + 1) c (sym (h.closed.has.tills (k + 1)) ∙ at)

  fits : IsCard c
  fits = let (bytes, here, reads) = stands in ((card_is bytes c).0 reads).0

  renewed-read : request_card_of text ≡ Some (renewed c)
  renewed-read =
      (card_is text (renewed c)).1 (
        record {
          version = inr refl;
          old = λ e. absurd (omega (arith, e));
          newest =
              fits.newest;
          intent = fits.intent;
          second = tt;
        },
        refl,
      )

  none-open : intents (cards_in f.requests) ≡ []
  none-open = sym (table-intents f table h.closed.has.tills) ∙ h.closed.no_intent

  closed-card : c.pending ≡ false
  closed-card = not-open c.pending c (closed-at table k (Some c) (sym (nth-at table k) ∙ at) h.closed.no_intent)

  pub renewed-there : k + 1 ≤ length f.requests
  renewed-there = let (bytes, here, reads) = stands in (record-within f.requests (k + 1) (ap is_some here)).1

  -- each image on the way is the same shop's
  pub renewed-shop : (new : Image) → IsPuttingAnswer f (k + 1) text new → IsShop new s
  renewed-shop new (inl has) = record {
    files = f;
    has = has;
    records = h.closed.has.shop.records;
    is =
        h.closed.has.shop.is;
  }
  renewed-shop new (inr has) =
      let (bytes, here, reads) = stands in
      subst (IsShop new) h.closed.has.shop.is
      (step-migrated new f h.closed.has.shop.records f.blocks (k + 1) bytes text c (renewed c) (omega (arith, lt)) here
      reads renewed-read none-open closed-card refl (sym (fits.old old).0) has)

  -- and so is the table
  pub renewed-table : (new : Image) → HasAnswer f (k + 1) text new
      → HasNewTable new s (set table k (Some (renewed c))) (k + 1)
  renewed-table new has =
      let (bytes, here, reads) = stands in
      let files : Files = record f { requests = with_record f.requests (k + 1) text } in
      let shop : IsShop new s = renewed-shop new (inr has) in
      let all : HasTills files (set table k (Some (renewed c))) =
      table-with f.requests table k bytes text (Some (renewed c)) lt long here renewed-read h.closed.has.tills in
      let same : shop.files ≡ files = HasFiles-one new shop.files files shop.has has in
      let none : intents (cards_in files.requests) ≡ [] = card-intents_now f.stock f.requests (k + 1) bytes text
      (renewed c) (omega (arith, lt)) here renewed-read none-open ∙ open_in-answered (renewed c) closed-card in
      record {
        closed = record {
          has = record {
            shop = shop;
            tills = subst (λ (g : Files). HasTills g (set table k (Some (renewed c))))
                (sym same) all;
          };
          no_intent = table-intents files (set table k (Some (renewed c))) all ∙ none;
        };
        no_old_card = λ t le. elim (cases_eq t (k + 1)) [
          | inl e ↦ ap (λ n. is_old (nth (set table k (Some (renewed c))) n)) e
              ∙ ap is_old (nth-set_same table k (Some (renewed c)) (omega (arith, lt, long)))
          | inr ne ↦ ap is_old (nth-set_other table k t (Some (renewed c)) ne) ∙ h.no_old_card t (omega (arith, le, ne))
        ];
      }

  -- in the words of the call that writes
  module _ (till : ℕ) (up : k + 1 ≡ till) (bytes : List ℕ) (same : bytes ≡ text) where
    pub renewed-moments : {D : Type 0} (S : History D) (a b : D) → Changes S a b 1 (IsPuttingAnswer f till bytes)
        → Changes S a b 1 (λ i. IsShop i s)
    renewed-moments S a b changes = changes_weaker S a b 1 1 (IsPuttingAnswer f till bytes) (λ i. IsShop i s)
        (omega arith)
        (λ i x. renewed-shop i (subst (λ (n : ℕ). IsPuttingAnswer f n text i) (sym up)
        (subst (λ (y : List ℕ). IsPuttingAnswer f till y i) same x))) changes

    pub renewed-ok : (n : Card) → n ≡ renewed c → (new : Image) → HasAnswer f till bytes new
        → HasNewTable new s (set table k (Some n)) till
    renewed-ok n e new has =
        let here : HasAnswer f (k + 1) text new = subst (λ (m : ℕ). HasAnswer f m text new) (sym up)
        (subst (λ (y : List ℕ). HasAnswer f till y new) same has) in
        subst (λ (m : ℕ). HasNewTable new s (set table k (Some n)) m) up
        (subst (λ (x : Card). HasNewTable new s (set table k (Some x)) (k + 1)) (sym e) (renewed-table new here))
