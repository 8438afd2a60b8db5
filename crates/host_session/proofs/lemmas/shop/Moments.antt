-- What each write of a request, of recovery and of migration makes of the shop: the moments, over the records of the
-- two files.
use Rattle.std.proofs.Common.{◌≡◌, ◌⊎◌, ℕ, ◌≤◌, inl, inr, true, false, List, [], ◌∷◌, ◌++◌, length, replicate, sym, ◌∙◌}
use Rattle.std.proofs.Common.{ap, subst, arith}
use Rattle.std.specs.Prelude.{Contains, IsSome, Option, Some, None, option_map, is_some}
use Rattle.std.specs.List.{AllByRecursion}
use Rattle.std.specs.Option.{option_and_then}
use Rattle.std.proofs.lemmas.Bool.{cases_eq, eq-eqb, ne_eqb}
use Rattle.std.proofs.lemmas.List.{append-nil}
use Rattle.std.proofs.lemmas.Option.{same_Some}
use Rattle.disk_layout.specs.Records.{empty_record}
use Rattle.disk_layout.proofs.lemmas.lists.Once.{Contains-nil}
use Rattle.request_cards.specs.CardTexts.{Card}
use Rattle.request_cards.specs.CardReading.{request_card_of, stock_card_of}
use Rattle.request_cards.specs.Ledgers.{State}
use Rattle.request_cards.specs.Trade.{Cards, put}
use Rattle.host_session.specs.shop.Files.{record_at, with_record}
use Rattle.host_session.specs.shop.Shop.{AreLedgerRecords, IsIntended, IsRequestRecord, IsStockRecord, card_at}
use Rattle.host_session.specs.shop.Shop.{cards_in, intents, items, open_in, overlaid, quantities, quantity_if}
use Rattle.host_session.specs.shop.Shop.{quantity_in, results, results_of, state_of}
use Rattle.host_session.proofs.lemmas.shop.Lists.{map-take-with, record_at-append_replicate, record_at-map_take}
use Rattle.host_session.proofs.lemmas.shop.Lists.{record_at-with_other, record_at-with_same}
use Rattle.host_session.proofs.lemmas.shop.Overlays.{items-some, open_in-answered, open_in-few, open_in-pending}
use Rattle.host_session.proofs.lemmas.shop.Overlays.{record_at-with_some, intents-open, intents-with_closed}
use Rattle.host_session.proofs.lemmas.shop.Overlays.{intents-with_open, overlaid-agree, overlaid-same, put-same}

-- the state with this card at the till: its newest entry kept, its second one before it
abbrev pub with_card : State → ℕ → Card → Cards → State
with_card state t c cards = record {
  ledger = record { cards = cards; kept = put state.ledger.kept t (Some c.newest) };
  prior = put state.prior t c.second;
}

-- a till's card changed: the reading of each till
pub cards-with : (requests : List (List ℕ)) (t : ℕ) (bytes : List ℕ)
    → cards_in (with_record requests t bytes) ≡ with_record (cards_in requests) t (request_card_of bytes)
cards-with requests t bytes = map-take-with request_card_of 64 requests t bytes

card-with : (cs : List (Option Card)) (t : ℕ) (o : Option Card) (c : Card) {X : Type 0} (f : Option Card → X)
    → record_at cs t ≡ Some o → (k : ℕ)
    → f (card_at (with_record cs t (Some c)) k) ≡ put (λ j. f (card_at cs j)) t (f (Some c)) k
card-with cs t o c f e k = elim (cases_eq k t) [
  | inl h ↦ rw (eq-eqb k t h) (ap f (ap (option_and_then (λ x. x)) (ap (record_at (with_record cs t (Some c))) h
      ∙ record_at-with_same cs t o (Some c) e)))
  | inr n ↦ rw (ne_eqb k t n) (ap f (ap (option_and_then (λ x. x)) (record_at-with_other cs k t (Some c) n)))
]

-- the new state, where the intents are known
state-with : (stock requests : List (List ℕ)) (t : ℕ) (old bytes : List ℕ) (c : Card) → t ≤ 64
    → record_at requests t ≡ Some old → request_card_of bytes ≡ Some c
    → state_of stock (with_record requests t bytes)
    ≡ with_card (state_of stock requests) t c (overlaid (results (intents (with_record (cards_in requests) t (Some c))))
    (quantities stock))
state-with stock requests t old bytes c low here reads =
    let cs = cards_in requests in
    let e : cards_in (with_record requests t bytes) ≡ with_record cs t (Some c) = cards-with requests t bytes
    ∙ ap (with_record cs t) reads in
    let o : record_at cs t ≡ Some (request_card_of old) = record_at-map_take request_card_of 64 requests t old low
    here in
    λ i. record {
      ledger = record {
        cards = overlaid (results (intents (e i))) (quantities stock);
        kept = λ k. (ap (λ xs. option_map (λ (x : Card). x.newest) (card_at xs k)) e
            ∙ card-with cs t (request_card_of old) c (option_map (λ x. x.newest)) o k) i;
      };
      prior = λ k. (ap (λ xs. option_and_then (λ (x : Card). x.second) (card_at xs k)) e
          ∙ card-with cs t (request_card_of old) c (option_and_then (λ x. x.second)) o k) i;
    }

-- a till's record that is written is a card
tills-with : (requests : List (List ℕ)) (t : ℕ) (old bytes : List ℕ) (c : Card) → record_at requests t ≡ Some old
    → request_card_of bytes ≡ Some c
    → ((k : ℕ) (b : List ℕ) → k ≤ 64 → record_at requests k ≡ Some b → IsRequestRecord b)
    → (k : ℕ) (b : List ℕ) → k ≤ 64 → record_at (with_record requests t bytes) k ≡ Some b → IsRequestRecord b
tills-with requests t old bytes c here reads all k b low h = elim (cases_eq k t) [
  | inl e ↦
      let same : Some bytes ≡ Some b = sym (record_at-with_same requests t old bytes here)
      ∙ ap (record_at (with_record requests t bytes)) (sym e) ∙ h in
      let P : List ℕ → Type 0 = λ x. IsSome (request_card_of x) in
      inr (subst P (same_Some bytes b same) (ap is_some reads))
  | inr n ↦ all k b low (sym (record_at-with_other requests k t bytes n) ∙ h)
]

-- Growth: empty records behind those of STOCK.
module _ (stock requests : List (List ℕ)) (m : ℕ) (blank : stock_card_of (empty_record 18) ≡ None) where
  grown-quantity : (k : ℕ) → quantities (stock ++ replicate m (empty_record 18)) k ≡ quantities stock k
  grown-quantity k = elim (record_at-append_replicate stock m k (empty_record 18)) [
    | inl e ↦ ap (option_and_then (quantity_in k)) e
    | inr p ↦ ap (option_and_then (quantity_in k)) p.1 ∙ ap (option_and_then (quantity_if k)) blank
        ∙ sym (ap (option_and_then (quantity_in k)) p.0)
  ]

  pub grown-state : state_of (stock ++ replicate m (empty_record 18)) requests ≡ state_of stock requests
  grown-state = λ i. record (state_of stock requests) {
    ledger = record {
      cards = overlaid (results (intents (cards_in requests))) (λ k. grown-quantity k i);
      kept = (state_of stock requests).ledger.kept;
    };
  }

  pub grown-cards : AreLedgerRecords stock requests → AreLedgerRecords (stock ++ replicate m (empty_record 18)) requests
  grown-cards all = record {
    request_records = all.request_records;
    one_intent = all.one_intent;
    intent_has_records = λ r c. elim (record_at-append_replicate stock m r (empty_record 18)) [
      | inl e ↦ ap is_some e ∙ all.intent_has_records r c
      | inr p ↦ ap is_some p.1
    ];
    stock_records = λ r bytes h. elim (record_at-append_replicate stock m r (empty_record 18)) [
      | inl e ↦ all.stock_records r bytes (sym e ∙ h)
      | inr p ↦ inr (inl (same_Some bytes (empty_record 18) (sym h ∙ p.1)))
    ];
  }

-- A till's card is written where no intent is open: an answer, an intent, or the same card in another version.
module _ (stock requests : List (List ℕ)) (t : ℕ) (old bytes : List ℕ) (c : Card) (low : t ≤ 64)
    (here : record_at requests t ≡ Some old) (reads : request_card_of bytes ≡ Some c)
    (closed : intents (cards_in requests) ≡ []) where
  card-intents : intents (with_record (cards_in requests) t (Some c)) ≡ open_in (Some c)
  card-intents = intents-with_closed (cards_in requests) t (request_card_of old) (Some c)
      (record_at-map_take request_card_of 64 requests t old low here) closed

  pub card-list : cards_in (with_record requests t bytes) ≡ with_record (cards_in requests) t (Some c)
  card-list = cards-with requests t bytes ∙ ap (with_record (cards_in requests) t) reads

  pub card-intents_now : intents (cards_in (with_record requests t bytes)) ≡ open_in (Some c)
  card-intents_now = ap intents card-list ∙ card-intents

  pub card-state : state_of stock (with_record requests t bytes)
      ≡ with_card (state_of stock requests) t c
      (overlaid (results (open_in (Some c))) (state_of stock requests).ledger.cards)
  card-state =
      state-with stock requests t old bytes c low here reads
      ∙ ap (λ is. with_card (state_of stock requests) t c (overlaid (results is) (quantities stock))) card-intents
      ∙ ap (λ is. with_card (state_of stock requests) t c
      (overlaid (results (open_in (Some c))) (overlaid (results is) (quantities stock)))) (sym closed)

  pub card-cards : AreLedgerRecords stock requests → ((r : ℕ) → Contains (items (results (open_in (Some c)))) r
      → IsSome (record_at stock r)) → AreLedgerRecords stock (with_record requests t bytes)
  card-cards all there =
      let now = card-intents_now in
      let P : List Card → Type 0 = λ is. length is ≤ 1 in
      let Q : List Card → Type 0 = λ is. (r : ℕ) → Contains (items (results is)) r → IsSome (record_at stock r) in
      record {
        request_records = tills-with requests t old bytes c here reads all.request_records;
        one_intent = subst P (sym now) (open_in-few (Some c));
        intent_has_records = subst Q (sym now) there;
        stock_records = λ r b h. inr (card-each r b (all.stock_records r b h));
      }
    where
      card-each : (r : ℕ) (b : List ℕ) → IsIntended requests r ⊎ IsStockRecord r b → IsStockRecord r b
      card-each r b (inl d) = let R : List Card → Type 0 = λ is. Contains (items (results is)) r in
          absurd (Contains-nil r (subst R closed d))
      card-each r b (inr s) = s

-- A record of STOCK is written while an intent for its item is open: any bytes, so whole or torn.
module _ (stock requests : List (List ℕ)) (r : ℕ) (bytes : List ℕ) (excused : IsIntended requests r) where
  pub excused-state : state_of (with_record stock r bytes) requests ≡ state_of stock requests
  excused-state =
      let agree : (k : ℕ) → overlaid (results (intents (cards_in requests))) (quantities (with_record stock r bytes))
      k ≡ overlaid (results (intents (cards_in requests))) (quantities stock) k
      = overlaid-agree (results (intents (cards_in requests))) (quantities (with_record stock r bytes))
      (quantities stock)
      (λ k n. ap (option_and_then (quantity_in k))
      (record_at-with_other stock k r bytes (λ e. n (subst (λ j. IsIntended requests j) (sym e) excused)))) in
      λ i. record (state_of stock requests) {
        ledger = record { cards = λ k. agree k i; kept = (state_of stock requests).ledger.kept };
      }

  pub excused-cards : AreLedgerRecords stock requests → AreLedgerRecords (with_record stock r bytes) requests
  excused-cards all = record {
    request_records = all.request_records;
    one_intent = all.one_intent;
    intent_has_records = λ k c. record_at-with_some stock r k bytes ∙ all.intent_has_records k c;
    stock_records = λ k b h. elim (cases_eq k r) [
      | inl e ↦ inl (subst (λ j. IsIntended requests j) (sym e) excused)
      | inr n ↦ all.stock_records k b (sym (record_at-with_other stock k r bytes n) ∙ h)
    ];
  }

-- The open intent is answered, once STOCK has the cards of its results.
module _ (stock requests : List (List ℕ)) (t : ℕ) (old bytes : List ℕ) (o c : Card) (low : t ≤ 64)
    (here : record_at requests t ≡ Some old)
    (is_open : request_card_of old ≡ Some o) (reads : request_card_of bytes ≡ Some c) (pending : o.pending ≡ true)
    (answered : c.pending ≡ false)
    (newest : c.newest ≡ o.newest) (second : c.second ≡ o.second) (all : AreLedgerRecords stock requests)
    (done : AllByRecursion (λ r. quantities stock r.0 ≡ Some r.1) (results_of o.newest)) where
  here-open : record_at (cards_in requests) t ≡ Some (Some o)
  here-open = record_at-map_take request_card_of 64 requests t old low here ∙ ap Some is_open

  one-open : 1 ≤ length (open_in (Some o))
  one-open = omega (arith, ap length (open_in-pending o pending))

  intents-before : intents (cards_in requests) ≡ o ∷ []
  intents-before = intents-open (cards_in requests) t (Some o) here-open all.one_intent one-open
      ∙ open_in-pending o pending

  results-before : results (intents (cards_in requests)) ≡ results_of o.newest
  results-before = ap results intents-before ∙ append-nil (results_of o.newest)

  intents-list : intents (with_record (cards_in requests) t (Some c)) ≡ []
  intents-list = intents-with_open (cards_in requests) t (Some o) (Some c) here-open all.one_intent one-open
      ∙ open_in-answered c answered

  pub answered-intents : intents (cards_in (with_record requests t bytes)) ≡ []
  answered-intents = ap intents (cards-with requests t bytes ∙ ap (with_record (cards_in requests) t) reads)
      ∙ intents-list

  pub answered-state : state_of stock (with_record requests t bytes) ≡ state_of stock requests
  answered-state =
      let st = state_of stock requests in
      let at : card_at (cards_in requests) t ≡ Some o = ap (option_and_then (λ x. x)) here-open in
      let kept : (k : ℕ) → put st.ledger.kept t (Some c.newest) k ≡ st.ledger.kept k
      = put-same st.ledger.kept t (Some c.newest) (ap (option_map (λ (x : Card). x.newest)) at
      ∙ ap Some (sym newest)) in
      let prior : (k : ℕ) → put st.prior t c.second k ≡ st.prior k
      = put-same st.prior t c.second (ap (option_and_then (λ (x : Card). x.second)) at ∙ sym second) in
      let cards : (k : ℕ) → quantities stock k ≡ st.ledger.cards k
      = λ k. sym (ap (λ rs. overlaid rs (quantities stock) k) results-before
      ∙ overlaid-same (results_of o.newest) (quantities stock) done k) in
      state-with stock requests t old bytes c low here reads
      ∙ ap (λ is. with_card st t c (overlaid (results is) (quantities stock))) intents-list
      ∙ (λ i. record { ledger = record { cards = λ k. cards k i; kept = λ k. kept k i }; prior = λ k. prior k i })

  pub answered-cards : AreLedgerRecords stock (with_record requests t bytes)
  answered-cards =
      let P : List Card → Type 0 = λ is. length is ≤ 1 in
      let Q : List Card → Type 0 = λ is. (r : ℕ) → Contains (items (results is)) r → IsSome (record_at stock r) in
      record {
        request_records = tills-with requests t old bytes c here reads all.request_records;
        one_intent = subst P (sym answered-intents) (omega arith);
        intent_has_records = subst Q (sym answered-intents) (λ r d. absurd (Contains-nil r d));
        stock_records = λ r b h. inr (each-answered r b h (all.stock_records r b h));
      }
    where
      each-answered : (r : ℕ) (b : List ℕ) → record_at stock r ≡ Some b → IsIntended requests r ⊎ IsStockRecord r b
          → IsStockRecord r b
      each-answered r b h (inl d) =
          let R : List (ℕ × ℕ) → Type 0 = λ rs. Contains (items rs) r in
          let some : IsSome (quantities stock r) = items-some (results_of o.newest) (quantities stock) done r
          (subst R results-before d) in
          inr (sym (ap is_some (ap (option_and_then (quantity_in r)) h)) ∙ some)
      each-answered r b h (inr s) = s
