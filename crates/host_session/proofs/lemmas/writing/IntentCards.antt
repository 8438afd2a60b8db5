-- The cards of an open intent, written one after another: the same shop at each moment.
use Rattle.std.proofs.Common.{ℕ, ◌≡◌, ◌≢◌, ◌≤◌, inl, inr, List, [], ◌∷◌, Some, length, refl, sym, ◌∙◌, ap, subst, arith}
use Rattle.std.specs.Prelude.{Contains, IsSome, Option, None}
use Rattle.std.specs.List.{AllByRecursion}
use Rattle.std.proofs.lemmas.Bool.{false≢true}
use Rattle.std.proofs.lemmas.List.{append-nil}
use Rattle.d64_image.specs.Images.{Image}
use Rattle.disk_layout.proofs.lemmas.lists.Once.{Contains-here, Contains-there}
use Rattle.request_cards.proofs.CardReading.{stock_is}
use Rattle.request_cards.specs.CardReading.{request_card_of, stock_card_of}
use Rattle.request_cards.specs.CardTexts.{Card, IsStock, Stock, stock_text}
use Rattle.host_session.specs.shop.Completing.{HasIntent, HasResults}
use Rattle.host_session.specs.shop.Files.{Files, record_at, with_record}
use Rattle.host_session.specs.shop.Putting.{HasCard, IsPuttingCard, with_card}
use Rattle.host_session.specs.shop.Shop.{IsIntended, IsShop, cards_in, intents, items, open_in, quantities, results}
use Rattle.host_session.specs.shop.Shop.{results_of, shop_of}
use Rattle.host_session.proofs.lemmas.shop.Lists.{record-within, record_at-map_take}
use Rattle.host_session.proofs.lemmas.shop.Overlays.{intents-open, open_in-pending, record_at-with_some}
use Rattle.host_session.proofs.lemmas.shop.Moments.{excused-cards, excused-state}
use Rattle.host_session.proofs.lemmas.shop.Steps.{quantity-other, quantity-written, step-excused}

-- the text of a stock card is read as that card
pub stock-text_read : (s : Stock) → IsStock s → stock_card_of (stock_text s) ≡ Some s
stock-text_read s fits = (stock_is (stock_text s) s).1 (fits, refl)

module _ (f : Files) (till : ℕ) (c : Card) (x : HasIntent f till c) where
  here-open : record_at (cards_in f.requests) till ≡ Some (Some c)
  here-open = record_at-map_take request_card_of 64 f.requests till x.was x.high x.here ∙ ap Some x.reads

  one-open : 1 ≤ length (open_in (Some c))
  one-open = omega (arith, ap length (open_in-pending c x.is_open))

  -- the intent's results are those of all open intents
  pub intent-results : results (intents (cards_in f.requests)) ≡ results_of c.newest
  intent-results = ap results (intents-open (cards_in f.requests) till (Some c) here-open x.records.one_intent one-open
      ∙ open_in-pending c x.is_open) ∙ append-nil (results_of c.newest)

  pub intended : (item : ℕ) → Contains (items (results_of c.newest)) item → IsIntended f.requests item
  intended item h = subst (λ (qs : List (ℕ × ℕ)). Contains (items qs) item) (sym intent-results) h

  pub intended-within : (item : ℕ) → Contains (items (results_of c.newest)) item → (1 ≤ item) × (item ≤ length f.stock)
  intended-within item h = record-within f.stock item (x.records.intent_has_records item (intended item h))

  -- the files with other bytes in the record of such an item have the same intent, and are the same shop's
  module _ (item : ℕ) (h : Contains (items (results_of c.newest)) item) (bytes : List ℕ) (b : ℕ) where
    pub intent-after : HasIntent (with_card f item bytes b) till c
    intent-after = record {
      records = excused-cards f.stock f.requests item bytes (intended item h) x.records;
      low = x.low;
      high = x.high;
      was = x.was;
      here = x.here;
      reads = x.reads;
      is_open = x.is_open;
    }

    pub shop-after : shop_of (with_card f item bytes b) ≡ shop_of f
    shop-after = λ i. record (shop_of f) { state = excused-state f.stock f.requests item bytes (intended item h) i }

  -- and so is each image held while it is written
  pub putting-shop : (item : ℕ) → Contains (items (results_of c.newest)) item → (text : List ℕ) (img : Image)
      → IsPuttingCard f item text img → IsShop img (shop_of f)
  putting-shop item h text img (inl (b, has)) = record {
    files = record f { blocks = b };
    has = has;
    records =
        x.records;
    is = refl;
  }
  putting-shop item h text img (inr (inl (b, has))) = step-excused img f x.records b item _ (intended item h) has
  putting-shop item h text img (inr (inr (b, has))) = step-excused img f x.records b item text (intended item h) has

-- the quantity on a card, once it was written into a record that is there
quantity-there : (stock : List (List ℕ)) (r p : ℕ) (text : List ℕ) → IsSome (record_at stock r)
    → stock_card_of text ≡ Some (record { item = r; quantity = p }) → quantities (with_record stock r text) r ≡ Some p
quantity-there stock r p text some reads = by (record_at stock r) refl some
  where
    by : (o : Option (List ℕ)) → record_at stock r ≡ o → IsSome o → quantities (with_record stock r text) r ≡ Some p
    by None e s = absurd (false≢true s)
    by (Some old) e s = quantity-written stock r p old text e reads

module _ (f : Files) (till : ℕ) (c : Card) (x : HasIntent f till c) (item q : ℕ)
    (fits : IsStock (record { item = item; quantity = q })) where
  abbrev pub text : List ℕ
  text = stock_text (record { item = item; quantity = q })

  -- one card
  pub one-result : results_of c.newest ≡ (item, q) ∷ [] → (img : Image) → HasCard f item text img → HasResults f c img
  one-result one img (b, has) =
      let h : Contains (items (results_of c.newest)) item = subst (λ (qs : List (ℕ × ℕ)). Contains (items qs) item)
      (sym one) (Contains-here item []) in
      let excused = intended f till c x item h in
      record {
        stock = with_record f.stock item text;
        blocks = b;
        has = has;
        records = excused-cards f.stock f.requests item text excused x.records;
        same = excused-state f.stock f.requests item text excused;
        written = subst (AllByRecursion (λ (r : ℕ × ℕ). quantities (with_record f.stock item text) r.0 ≡ Some r.1))
            (sym one) (
              quantity-there f.stock item q text (x.records.intent_has_records item excused) (stock-text_read _ fits),
              tt,
            );
      }

  -- two cards, one after the other
  pub two-results : (to p : ℕ) → IsStock (record { item = to; quantity = p }) → to ≢ item
      → results_of c.newest ≡ (item, q) ∷ (to, p) ∷ [] → (b : ℕ) (img : Image)
      → HasCard (with_card f item text b) to (stock_text (record { item = to; quantity = p })) img → HasResults f c img
  two-results to p fits' other two b img (d, has) =
      let text' : List ℕ = stock_text (record { item = to; quantity = p }) in
      let h : Contains (items (results_of c.newest)) item = subst (λ (qs : List (ℕ × ℕ)). Contains (items qs) item)
      (sym two) (Contains-here item (to ∷ [])) in
      let h' : Contains (items (results_of c.newest)) to = subst (λ (qs : List (ℕ × ℕ)). Contains (items qs) to)
      (sym two) (Contains-there to item (to ∷ []) (Contains-here to [])) in
      let excused = intended f till c x item h in
      let excused' = intended f till c x to h' in
      let half : List (List ℕ) = with_record f.stock item text in
      let there' : IsSome (record_at half to) = record_at-with_some f.stock item to text
      ∙ x.records.intent_has_records to excused' in
      record {
        stock = with_record half to text';
        blocks = d;
        has = has;
        records = excused-cards half f.requests to text' excused' (excused-cards f.stock f.requests item text excused
            x.records);
        same = excused-state half f.requests to text' excused' ∙ excused-state f.stock f.requests item text excused;
        written = subst (AllByRecursion (λ (r : ℕ × ℕ). quantities (with_record half to text') r.0 ≡ Some r.1))
            (sym two) (
              quantity-other half to item text' (λ e. other (sym e))
                  ∙ quantity-there f.stock item q text (x.records.intent_has_records item excused)
                  (stock-text_read _ fits),
              (quantity-there half to p text' there' (stock-text_read _ fits'), tt),
            );
      }
