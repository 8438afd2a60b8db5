-- One write of a request, of recovery or of migration, from image to image: the shop before, and the shop after.
use Rattle.std.proofs.Common.{◌≡◌, ◌≢◌, ℕ, zero, suc, ◌≤◌, false, List, [], ◌∷◌, ◌++◌, length, replicate, refl}
use Rattle.std.proofs.Common.{sym, ◌∙◌, ap, subst, arith}
use Rattle.std.specs.Prelude.{Contains, IsSome, Option, Some, None, option_map, set, ◌==◌}
use Rattle.std.specs.Option.{option_and_then}
use Rattle.std.proofs.lemmas.Bool.{or_parts, or_from, eq-eqb}
use Rattle.d64_image.specs.Images.{Image}
use Rattle.disk_layout.specs.Clean.{IsClean}
use Rattle.disk_layout.specs.Records.{empty_record}
use Rattle.request_cards.specs.CardTexts.{Card, is_done}
use Rattle.request_cards.specs.CardReading.{request_card_of, stock_card_of}
use Rattle.request_cards.specs.Ledgers.{applied}
use Rattle.request_cards.specs.Requests.{Ask}
use Rattle.request_cards.specs.Trade.{outcome, put}
use Rattle.host_session.specs.shop.Files.{Files, HasFiles, record_at, with_record}
use Rattle.host_session.specs.shop.Shop.{AreLedgerRecords, IsIntended, IsSettled, IsShop, any_old, card_at, cards_in}
use Rattle.host_session.specs.shop.Shop.{intents, is_old, items, open_in, overlaid, quantities, quantity_if}
use Rattle.host_session.specs.shop.Shop.{quantity_in, results, shop_of, with_state}
use Rattle.host_session.proofs.lemmas.shop.Lists.{length-with, map-take-with, record_at-map_take, record_at-with_other}
use Rattle.host_session.proofs.lemmas.shop.Lists.{record_at-with_same}
use Rattle.host_session.proofs.lemmas.shop.Overlays.{open_in-answered, put-same}
use Rattle.host_session.proofs.lemmas.shop.Moments.{card-cards}
use Rattle.host_session.proofs.lemmas.shop.Moments.{card-intents_now, card-list, card-state, excused-cards}
use Rattle.host_session.proofs.lemmas.shop.Moments.{excused-state, grown-cards, grown-state, with_card}
use Rattle.host_session.proofs.lemmas.shop.Outcomes.{card-applied}

-- an empty record is no card
pub blank-record : stock_card_of (empty_record 18) ≡ None
unfolding stock_card_of
blank-record = refl

-- a written record of REQUESTS leaves the number of tills
pub tills-same : (requests : List (List ℕ)) (t : ℕ) (bytes : List ℕ)
    → length (cards_in (with_record requests t bytes)) ≡ length (cards_in requests)
tills-same requests t bytes = ap length (map-take-with request_card_of 64 requests t bytes)
    ∙ length-with (cards_in requests) t (request_card_of bytes)

-- no old card is left where a new one is written
old-set : (cs : List (Option Card)) (k : ℕ) (c : Card) → any_old cs ≡ false → (c.version == 1) ≡ false
    → any_old (set cs k (Some c)) ≡ false
old-set [] k c h e = refl
old-set (o ∷ cs) zero c h e = or_from (c.version == 1) (any_old cs) e (or_parts (is_old o) (any_old cs) h).1
old-set (o ∷ cs) (suc k) c h e = let p = or_parts (is_old o) (any_old cs) h in
    or_from (is_old o) (any_old (set cs k (Some c))) p.0 (old-set cs k c p.1 e)

pub old-with : (cs : List (Option Card)) (t : ℕ) (c : Card) → any_old cs ≡ false → (c.version == 1) ≡ false
    → any_old (with_record cs t (Some c)) ≡ false
old-with cs zero c h e = h
old-with cs (suc k) c h e = old-set cs k c h e

module _ (new : Image) (f : Files) (all : AreLedgerRecords f.stock f.requests) (b : ℕ) where
  -- growth: some empty records behind those of STOCK
  pub step-grown : (m : ℕ) → HasFiles new (record f { stock = f.stock ++ replicate m (empty_record 18); blocks = b })
      → IsShop new (shop_of f)
  step-grown m h = record {
    files = record f { stock = f.stock ++ replicate m (empty_record 18); blocks = b };
    has = h;
    records = grown-cards f.stock f.requests m blank-record all;
    is = λ i. record (shop_of f) { state = grown-state f.stock f.requests m blank-record i };
  }

  -- any bytes in a record of STOCK whose item an open intent has
  pub step-excused : (r : ℕ) (bytes : List ℕ) → IsIntended f.requests r
      → HasFiles new (record f { stock = with_record f.stock r bytes; blocks = b }) → IsShop new (shop_of f)
  step-excused r bytes excused h = record {
    files = record f { stock = with_record f.stock r bytes; blocks = b };
    has = h;
    records = excused-cards f.stock f.requests r bytes excused all;
    is = λ i. record (shop_of f) { state = excused-state f.stock f.requests r bytes excused i };
  }

  -- a card at a till, where no intent is open
  module _ (t : ℕ) (old bytes : List ℕ) (c : Card) (low : t ≤ 64) (here : record_at f.requests t ≡ Some old)
      (reads : request_card_of bytes ≡ Some c)
      (closed : intents (cards_in f.requests) ≡ []) (there : (r : ℕ) → Contains (items (results (open_in (Some c)))) r
      → IsSome (record_at f.stock r)) where
    pub step-card : HasFiles new (record f { requests = with_record f.requests t bytes; blocks = b })
        → IsShop new
        (with_state (shop_of f)
        (with_card (shop_of f).state t c (overlaid (results (open_in (Some c))) (shop_of f).state.ledger.cards)))
    step-card h = record {
      files = record f { requests = with_record f.requests t bytes; blocks = b };
      has = h;
      records = card-cards f.stock f.requests t old bytes c low here reads closed all there;
      is = λ i. record (shop_of f) {
        state = card-state f.stock f.requests t old bytes c low here reads closed i;
        tills = tills-same f.requests t bytes i;
      };
    }

    -- the answer that changes no card settles it
    pub step-card_settled : HasFiles new (record f { requests = with_record f.requests t bytes; blocks = b })
        → IsClean new → c.pending ≡ false → (c.version == 1) ≡ false → any_old (cards_in f.requests) ≡ false
        → IsSettled new
        (with_state (shop_of f)
        (with_card (shop_of f).state t c (overlaid (results (open_in (Some c))) (shop_of f).state.ledger.cards)))
    unfolding step-card
    step-card_settled h clean answered young none = record {
      shop = step-card h;
      clean = clean;
      no_intent = card-intents_now f.stock f.requests t old bytes c low here reads closed ∙ open_in-answered c answered;
      no_old_card = ap any_old (card-list f.stock f.requests t old bytes c low here reads closed)
          ∙ old-with (cards_in f.requests) t c none young;
    }

  -- the same card in another version, where it isn't open
  pub step-migrated : (t : ℕ) (old bytes : List ℕ) (o c : Card) → t ≤ 64 → record_at f.requests t ≡ Some old
      → request_card_of old ≡ Some o → request_card_of bytes ≡ Some c
      → intents (cards_in f.requests) ≡ [] → c.pending ≡ false → c.newest ≡ o.newest → c.second ≡ o.second
      → HasFiles new (record f { requests = with_record f.requests t bytes; blocks = b }) → IsShop new (shop_of f)
  step-migrated t old bytes o c low here was reads closed answered newest second h =
      let none : open_in (Some c) ≡ [] = open_in-answered c answered in
      let there : (r : ℕ) → Contains (items (results (open_in (Some c)))) r → IsSome (record_at f.stock r)
      = subst (λ (is : List Card). (r : ℕ) → Contains (items (results is)) r → IsSome (record_at f.stock r)) (sym none)
      (λ r d. absurd (omega (arith, d.1))) in
      let at : card_at (cards_in f.requests) t ≡ Some o
      = ap (option_and_then (λ x. x)) (record_at-map_take request_card_of 64 f.requests t old low here ∙ ap Some was) in
      let st = (shop_of f).state in
      let kept : (k : ℕ) → put st.ledger.kept t (Some c.newest) k ≡ st.ledger.kept k
      = put-same st.ledger.kept t (Some c.newest) (ap (option_map (λ (x : Card). x.newest)) at
      ∙ ap Some (sym newest)) in
      let prior : (k : ℕ) → put st.prior t c.second k ≡ st.prior k
      = put-same st.prior t c.second (ap (option_and_then (λ (x : Card). x.second)) at ∙ sym second) in
      let same : with_card st t c (overlaid (results (open_in (Some c))) st.ledger.cards) ≡ st
      = λ i. record {
        ledger = record { cards = overlaid (results (none i)) st.ledger.cards; kept = λ k. kept k i };
        prior = λ k. prior k i;
      } in
      subst (λ state. IsShop new (with_state (shop_of f) state)) same
      (step-card t old bytes c low here reads closed there h)

-- A request's card: its answer, or its intent, leaves the shop after the request.
pub step-request : (new : Image) (f : Files) (all : AreLedgerRecords f.stock f.requests) (b : ℕ) (a : Ask)
    (old bytes : List ℕ) (c : Card)
    → a.till ≤ 64 → record_at f.requests a.till ≡ Some old → request_card_of bytes ≡ Some c
    → intents (cards_in f.requests) ≡ []
    → ((r : ℕ) → Contains (items (results (open_in (Some c)))) r → IsSome (record_at f.stock r))
    → c.newest ≡ record {
      number = a.number;
      body = a.body;
      answer =
          (outcome (shop_of f).state.ledger.cards f.top a.body).0;
    }
    → c.second ≡ (shop_of f).state.ledger.kept a.till
    → c.pending ≡ is_done (outcome (shop_of f).state.ledger.cards f.top a.body).0
    → HasFiles new (record f { requests = with_record f.requests a.till bytes; blocks = b })
    → IsShop new (with_state (shop_of f) (applied f.top (shop_of f).state a))
step-request new f all b a old bytes c low here reads closed there newest second pending h =
    subst (λ state. IsShop new (with_state (shop_of f) state)) (card-applied f.top (shop_of f).state a c newest second
    pending)
    (step-card new f all b a.till old bytes c low here reads closed there h)

-- a card that is there is a record that is there
pub card-record : (stock : List (List ℕ)) (k : ℕ) → IsSome (quantities stock k) → IsSome (record_at stock k)
card-record stock k s = some_of (record_at stock k) s
  where
    some_of : (o : Option (List ℕ)) → IsSome (option_and_then (quantity_in k) o) → IsSome o
    some_of None s = s
    some_of (Some b) s = refl

-- the quantity on a card once it is written, and on the others
pub quantity-written : (stock : List (List ℕ)) (r q : ℕ) (old bytes : List ℕ) → record_at stock r ≡ Some old
    → stock_card_of bytes ≡ Some (record { item = r; quantity = q })
    → quantities (with_record stock r bytes) r ≡ Some q
quantity-written stock r q old bytes here reads =
    ap (option_and_then (quantity_in r)) (record_at-with_same stock r old bytes here)
    ∙ ap (option_and_then (quantity_if r)) reads
    ∙ rw (eq-eqb r r refl) refl

pub quantity-other : (stock : List (List ℕ)) (r k : ℕ) (bytes : List ℕ) → k ≢ r
    → quantities (with_record stock r bytes) k ≡ quantities stock k
quantity-other stock r k bytes n = ap (option_and_then (quantity_in k)) (record_at-with_other stock k r bytes n)
