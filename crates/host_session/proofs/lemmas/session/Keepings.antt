-- What the writes of a till's next request make of the shop: the one before it, or the one after.
use Rattle.std.proofs.Common.{ℕ, ◌≡◌, ◌≤◌, ◌⊎◌, ◌+◌, inl, inr, true, false, List, [], Some, length, replicate, refl}
use Rattle.std.proofs.Common.{sym, ◌∙◌, ap, subst, arith}
use Rattle.std.specs.Prelude.{Contains, IsSome, is_none, is_some, ◌==◌}
use Rattle.std.proofs.lemmas.Bool.{cases_Bool}
use Rattle.std.proofs.lemmas.List.{append-nil}
use Rattle.d64_image.specs.Images.{Image}
use Rattle.disk_layout.proofs.lemmas.lists.Once.{Contains-nil}
use Rattle.disk_layout.specs.Clean.{IsClean}
use Rattle.disk_layout.specs.Layout.{File}
use Rattle.disk_layout.specs.Records.{empty_record}
use Rattle.rel_records.specs.growth.Growth.{growth_writes}
use Rattle.request_cards.proofs.CardReading.{card_is}
use Rattle.request_cards.specs.CardReading.{request_card_of}
use Rattle.request_cards.specs.declared.kind.Kind.TheVariants.{Set}
use Rattle.request_cards.specs.CardTexts.{Card, card_text, is_done}
use Rattle.request_cards.specs.Ledgers.{Entry, State, applied}
use Rattle.request_cards.specs.Requests.{Ask}
use Rattle.host_session.specs.shop.Completing.{HasIntent, IsCompleted, answered_card}
use Rattle.host_session.specs.shop.Files.{Files, HasFiles, record_at, with_record}
use Rattle.host_session.specs.shop.Growing.{grown}
use Rattle.host_session.specs.session.Handling.{card_writes, kept_writes}
use Rattle.host_session.specs.session.Keeping.{HasItems, IsEither, IsKeeping, answer_of, shop_after}
use Rattle.host_session.specs.shop.Putting.{IsPuttingAnswer}
use Rattle.host_session.specs.shop.Shop.{IsSettled, IsShop, Shop, any_old, cards_in, items, open_in, overlaid}
use Rattle.host_session.specs.shop.Shop.{quantities, results, results_in, results_of, shop_of, with_state}
use Rattle.host_session.proofs.lemmas.writing.IntentAnswers.{answered-read, completed-shop}
use Rattle.host_session.proofs.lemmas.growing.GrowthCounts.{kept-most}
use Rattle.host_session.proofs.lemmas.growing.GrownStock.{grown-ledger, grown-same}
use Rattle.host_session.proofs.lemmas.shop.Lists.{record-there, record-within, record_at-with_same}
use Rattle.host_session.proofs.lemmas.shop.Overlays.{open_in-answered, open_in-pending}
use Rattle.host_session.proofs.lemmas.shop.Moments.{card-cards, card-list, card-state, cards-with, with_card}
use Rattle.host_session.proofs.lemmas.shop.Outcomes.{card-applied, outcome-there, results-refused}
use Rattle.host_session.proofs.lemmas.shop.Steps.{card-record, old-with, step-card_settled, step-request, tills-same}
use Rattle.host_session.proofs.lemmas.session.KeptItems.{done-item, done-writes, none-not, record-some, some-record}

module _ (f : Files) (a : Ask) (c : Card) (k : IsKeeping f a c) where
  -- the files with the card
  abbrev pub with_it : Files
  with_it = record f { requests = with_record f.requests a.till (card_text c) }

  reads : request_card_of (card_text c) ≡ Some c
  reads = (card_is (card_text c) c).1 (k.is_card, refl)

  there : (bytes : List ℕ) × (record_at f.requests a.till ≡ Some bytes)
  there = record-there f.requests a.till k.till_low k.till_there

  young : (c.version == 1) ≡ false
  young = ap (λ v. v == 1) k.version

  abbrev pub HasOpenItems : Type 0
  HasOpenItems = (r : ℕ) → Contains (items (results (open_in (Some c)))) r → IsSome (record_at f.stock r)

  pub closed-items : c.pending ≡ false → HasOpenItems
  closed-items e r d =
      absurd (Contains-nil r (subst (λ (cs : List Card). Contains (items (results cs)) r) (open_in-answered c e) d))

  pub open-items : c.pending ≡ true → HasItems f c → HasOpenItems
  open-items e all r d = all r (subst (λ (qs : List (ℕ × ℕ)). Contains (items qs) r) (ap results (open_in-pending c e)
      ∙ append-nil (results_of c.newest)) d)

  applied-is : with_card (shop_of f).state a.till c
      (overlaid (results (open_in (Some c))) (shop_of f).state.ledger.cards) ≡ applied f.top (shop_of f).state a
  applied-is = card-applied f.top (shop_of f).state a c k.newest k.second k.pending

  -- once the card is written it is the shop after the request
  pub kept-shop : HasOpenItems → (img : Image) → HasFiles img with_it → IsShop img (shop_after (shop_of f) a)
  kept-shop all img h = step-request img f k.records f.blocks a there.0 (card_text c) c k.till_high there.1 reads
      k.no_intent all k.newest k.second k.pending h

  pub same-shop : shop_of with_it ≡ shop_after (shop_of f) a
  same-shop = λ i. record (shop_of f) {
    state = (card-state f.stock f.requests a.till there.0 (card_text c) c k.till_high there.1 reads k.no_intent
        ∙ applied-is) i;
    tills = tills-same f.requests a.till (card_text c) i;
  }

  pub putting-either : HasOpenItems → (img : Image) → IsPuttingAnswer f a.till (card_text c) img
      → IsEither (shop_of f) a img
  putting-either all img (inl h) = inl (record { files = f; has = h; records = k.records; is = refl })
  putting-either all img (inr h) = inr (kept-shop all img h)

  -- an answer that changes no quantity leaves it at rest
  pub refused-settled : c.pending ≡ false → (img : Image) → IsClean img → HasFiles img with_it
      → IsSettled img (shop_after (shop_of f) a)
  refused-settled e img clean h =
      subst (λ (st : State). IsSettled img (with_state (shop_of f) st)) applied-is
      (step-card_settled img f k.records f.blocks a.till there.0 (card_text c) c k.till_high there.1 reads k.no_intent
      (closed-items e) h clean e young k.no_old_card)

  -- an intent is one that can be completed
  pub intent-kept : c.pending ≡ true → HasItems f c → HasIntent with_it a.till c
  intent-kept e all = record {
    records = card-cards f.stock f.requests a.till there.0 (card_text c) c k.till_high there.1 reads k.no_intent
        k.records (open-items e all);
    low = k.till_low;
    high = k.till_high;
    was = card_text c;
    here = record_at-with_same f.requests a.till there.0 (card_text c) there.1;
    reads = reads;
    is_open = e;
  }

  -- and that leaves the shop at rest
  none-old : any_old
      (cards_in (with_record (with_record f.requests a.till (card_text c)) a.till (card_text (answered_card c)))) ≡
      false
  none-old =
      let first : any_old (cards_in (with_record f.requests a.till (card_text c))) ≡ false
      = ap any_old (card-list f.stock f.requests a.till there.0 (card_text c) c k.till_high there.1 reads k.no_intent)
      ∙ old-with (cards_in f.requests) a.till c k.no_old_card young in
      let list = cards-with (with_record f.requests a.till (card_text c)) a.till (card_text (answered_card c))
      ∙ ap (with_record (cards_in (with_record f.requests a.till (card_text c))) a.till) (answered-read c k.is_card)
      in
      ap any_old list ∙ old-with (cards_in (with_record f.requests a.till (card_text c))) a.till (answered_card c) first
      refl

  pub completed-settled : (img : Image) → IsClean img → IsCompleted with_it a.till c img
      → IsSettled img (shop_after (shop_of f) a)
  unfolding completed-shop
  completed-settled img clean x = subst (λ (s : Shop). IsSettled img s) same-shop (record {
    shop = completed-shop with_it a.till c img x;
    clean = clean;
    no_intent = x.no_intent;
    no_old_card = none-old;
  })

  -- which records the card's items need
  plain-cards : (r : ℕ) → (shop_of f).state.ledger.cards r ≡ quantities f.stock r
  plain-cards r = ap (λ (cs : List Card). overlaid (results cs) (quantities f.stock) r) k.no_intent

  card-there : (r : ℕ) → IsSome ((shop_of f).state.ledger.cards r) → IsSome (record_at f.stock r)
  card-there r some = card-record f.stock r (ap is_some (sym (plain-cards r)) ∙ some)

  told-items : (r : ℕ) → Contains (items (results_of c.newest)) r
      → Contains (items (results_in a.body (answer_of (shop_of f) a))) r
  told-items r d = subst (λ (e : Entry). Contains (items (results_of e)) r) k.newest d

  -- that of a card that is there
  pub known-items : IsSome ((shop_of f).state.ledger.cards a.body.item) → HasItems f c
  known-items some r d = elim (outcome-there (shop_of f).state.ledger.cards f.top a.body r (told-items r d)) [
    | inl x ↦ card-there r x
    | inr x ↦ card-there r (subst (λ (j : ℕ). IsSome ((shop_of f).state.ledger.cards j)) (sym x.1) some)
  ]

  item-low : 1 ≤ a.body.item
  item-low = omega (arith, k.is_card.newest.body.item_low, ap (λ (e : Entry). e.body.item) k.newest)

  is-done : c.pending ≡ true → is_done (answer_of (shop_of f) a) ≡ true
  is-done e = sym k.pending ∙ e

  -- or that of a first set, which is up to the top
  pub first-set : c.pending ≡ true → is_none ((shop_of f).state.ledger.cards a.body.item) ≡ true → (1 ≤ a.body.item)
      × (a.body.item ≤ f.top)
  first-set e none =
      elim (outcome-there (shop_of f).state.ledger.cards f.top a.body a.body.item
      (done-item a.body (answer_of (shop_of f) a) (is-done e))) [
        | inl x ↦ absurd (none-not ((shop_of f).state.ledger.cards a.body.item) none x)
        | inr x ↦ (item-low, x.2)
      ]

  pub first-kind : c.pending ≡ true → is_none ((shop_of f).state.ledger.cards a.body.item) ≡ true → (a.body.kind ≡ Set)
      × (a.body.item ≤ f.top)
  first-kind e none =
      elim (outcome-there (shop_of f).state.ledger.cards f.top a.body a.body.item
      (done-item a.body (answer_of (shop_of f) a) (is-done e))) [
        | inl x ↦ absurd (none-not ((shop_of f).state.ledger.cards a.body.item) none x)
        | inr x ↦ (x.0, x.2)
      ]

  -- once STOCK has grown
  pub keeping-grown : (m b : ℕ) → IsKeeping (grown f m b) a c
  keeping-grown m b = record {
    records = grown-ledger f m b k.records;
    no_intent = k.no_intent;
    no_old_card = k.no_old_card;
    till_low = k.till_low;
    till_high = k.till_high;
    till_there = k.till_there;
    is_card = k.is_card;
    version = k.version;
    newest = k.newest ∙ ap (λ (s : Shop). entry-in s) (sym (grown-same f m b));
    second = k.second ∙ ap (λ (s : Shop). s.state.ledger.kept a.till) (sym (grown-same f m b));
    pending = k.pending ∙ ap (λ (s : Shop). is_done (answer_of s a)) (sym (grown-same f m b));
  }
    where
      entry-in : Shop → Entry
      entry-in s = record { number = a.number; body = a.body; answer = answer_of s a }

  pub grown-items : (m b : ℕ) → a.body.item ≤ length (grown f m b).stock → HasItems (grown f m b) c
  grown-items m b far r d = elim (outcome-there (shop_of f).state.ledger.cards f.top a.body r (told-items r d)) [
    | inl x ↦ some-record f.stock (replicate m (empty_record 18)) r (card-there r x)
    | inr x ↦ subst (λ (j : ℕ). IsSome (record_at (grown f m b).stock j)) (sym x.1)
        (record-some (grown f m b).stock a.body.item item-low far)
  ]

  -- how many sectors are written at most
  no-results : c.pending ≡ false → results_of c.newest ≡ []
  no-results e = ap (λ (x : Entry). results_of x) k.newest ∙ results-refused a.body (answer_of (shop_of f) a)
      (sym k.pending ∙ e)

  pub refused-writes : c.pending ≡ false → (stock : File) → 1 ≤ kept_writes stock a.body.item (results_of c.newest)
  refused-writes e stock = omega (arith, ap (kept_writes stock a.body.item) (no-results e))

  pub intent-writes : c.pending ≡ true → (stock : File)
      → growth_writes stock a.body.item + 2 + card_writes (results_of c.newest) ≤ kept_writes stock a.body.item
      (results_of c.newest)
  intent-writes e stock = omega (
    arith,
    ap (λ (x : Entry). card_writes (results_of x)) k.newest,
    ap (λ (x : Entry). kept_writes stock a.body.item (results_of x)) k.newest,
    done-writes stock a.body.item a.body (answer_of (shop_of f) a) (is-done e),
  )

  -- the item of what is done is up to the top, or its record is there
  pub item-place : c.pending ≡ true → (a.body.item ≤ f.top) ⊎ (a.body.item ≤ length f.stock)
  item-place e =
      elim (outcome-there (shop_of f).state.ledger.cards f.top a.body a.body.item
      (done-item a.body (answer_of (shop_of f) a) (is-done e))) [
        | inl x ↦ inr (record-within f.stock a.body.item (card-there a.body.item x)).1
        | inr x ↦ inl x.2
      ]

  pub kept-within : (img : Image) (h : HasFiles img f)
      → kept_writes h.stock_file a.body.item (results_of c.newest) ≤ 3618
  kept-within img h = elim (cases_Bool c.pending) [
    | inl e ↦ omega (
      arith,
      ap (λ (x : Entry). kept_writes h.stock_file a.body.item (results_of x)) k.newest,
      kept-most img f h a.body.item a.body (answer_of (shop_of f) a) (item-place e),
    )
    | inr e ↦ omega (arith, ap (kept_writes h.stock_file a.body.item) (no-results e))
  ]
