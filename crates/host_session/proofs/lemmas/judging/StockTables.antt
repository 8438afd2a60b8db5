-- Tables of the quantities on hand as they are read.
use Rattle.std.proofs.Common.{ℕ, zero, suc, ◌≡◌, ◌≢◌, ◌<◌, ◌≤◌, ◌+◌, ◌*◌, ◌⊎◌, ⊎_elim, inl, inr, List, None, Option}
use Rattle.std.proofs.Common.{Some, false, true, ap, arith, length, refl, replicate, set, subst, sym, ◌∙◌}
use Rattle.std.specs.Prelude.{is_some}
use Rattle.std.specs.Option.{option_and_then}
use Rattle.std.proofs.lemmas.Bool.{cases_eq, cases_lt, eq-eqb, false≢true, ne_eqb}
use Rattle.std.proofs.lemmas.List.{length-replicate, length-set}
use Rattle.std.proofs.lemmas.Option.{none-some, same_Some}
use Rattle.d64_image.specs.Images.{Image, IsImage}
use Rattle.disk_layout.proofs.lemmas.lists.Count.{places-few}
use Rattle.disk_layout.specs.Layout.{record_length}
use Rattle.disk_layout.specs.Records.{empty_record, record_count}
use Rattle.rel_records.proofs.lemmas.reading.Opened.{blocks-once, records-fit}
use Rattle.rel_records.proofs.lemmas.reading.Readings.{length-records}
use Rattle.request_cards.specs.CardReading.{stock_card_of}
use Rattle.request_cards.specs.CardTexts.{Stock}
use Rattle.host_session.specs.shop.Files.{Files, record_at}
use Rattle.host_session.specs.shop.Found.{AreFilesOf}
use Rattle.host_session.specs.shop.LoadedShop.{AreCards, HasJudgedTills, IsCountedTo, IsJudgedItem, listed, no_cards}
use Rattle.host_session.specs.session.Opening.{IsBadCard, IsLowest}
use Rattle.host_session.specs.shop.Shop.{IsIntended, IsStockRecord, cards_in, intents, overlaid, quantities}
use Rattle.host_session.specs.shop.Shop.{quantity_if, quantity_in, results, state_of}
use Rattle.host_session.specs.declared.shop.files.LedgerFiles.{LedgerFiles}
use Rattle.host_session.specs.declared.shop.intents.NewQuantities.{NewQuantities}
use Rattle.host_session.proofs.lemmas.shop.Lists.{record-within}
use Rattle.host_session.proofs.lemmas.judging.NewResults.{given-none, given-some, overlays}
use Rattle.host_session.proofs.lemmas.shop.Steps.{blank-record}
use Rattle.host_session.proofs.lemmas.judging.TableEntries.{record_at-past}
use Rattle.request_cards.specs.Tables.{nth}
use Rattle.request_cards.proofs.Tables.{nth-none, nth-set_other, nth-set_same}

-- what an open intent leaves of an item's record
pub record IsLeft (f : Files) (item : ℕ) : Type 0 where
  pub other : ¬ (IsIntended f.requests item)
  pub quantity : (state_of f.stock f.requests).ledger.cards item ≡ quantities f.stock item

module _ (f : Files) (item : ℕ) (x : NewQuantities) (h : HasJudgedTills f x) (q : Option ℕ)
    (new : q ≡ overlaid (listed x) no_cards item) where
  told : overlaid (results (intents (cards_in f.requests))) no_cards item ≡ q
  told = ap (λ (qs : List (ℕ × ℕ)). overlaid qs no_cards item) (sym h.new) ∙ sym new

  -- a new quantity
  pub judged-intended : (bytes : List ℕ) → record_at f.stock item ≡ Some bytes → is_some q ≡ true
      → IsJudgedItem f item (Some q)
  judged-intended bytes here some = by q told some
    where
      by : (o : Option ℕ) → overlaid (results (intents (cards_in f.requests))) no_cards item ≡ o → is_some o ≡ true
          → IsJudgedItem f item (Some o)
      by None e some = absurd (false≢true some)
      by (Some n) e some =
          let (has, now) = given-some (results (intents (cards_in f.requests))) item (quantities f.stock) n e in
          (bytes, here, sym now, inl has)

  -- none
  pub left-alone : is_some q ≡ false → IsLeft f item
  left-alone none = by q told none
    where
      by : (o : Option ℕ) → overlaid (results (intents (cards_in f.requests))) no_cards item ≡ o → is_some o ≡ false
          → IsLeft f item
      by (Some n) e none = absurd (false≢true (sym none))
      by None e none = let (other, same) = given-none (results (intents (cards_in f.requests))) item
          (quantities f.stock) e in record { other = other; quantity = same }

-- an item's record, judged where no open intent is for the item
module _ (f : Files) (item : ℕ) (left : IsLeft f item) (bytes : List ℕ) (here : record_at f.stock item ≡ Some bytes)
  where
    on-record : (state_of f.stock f.requests).ledger.cards item ≡ quantity_in item bytes
    on-record = left.quantity ∙ ap (option_and_then (quantity_in item)) here

    pub judged-blank : bytes ≡ empty_record 18 → IsJudgedItem f item (Some None)
    judged-blank e = (
      bytes,
      here,
      sym (on-record ∙ ap (quantity_in item) e ∙ ap (option_and_then (quantity_if item)) blank-record),
      inr (inl e),
    )

    module _ (s : Stock) (reads : stock_card_of bytes ≡ Some s) where
      pub judged-stock : s.item ≡ item → IsJudgedItem f item (Some (Some s.quantity))
      judged-stock e =
          let quantity : quantity_in item bytes ≡ Some s.quantity = ap (option_and_then (quantity_if item)) reads
          ∙ rw (eq-eqb s.item item e) refl in
          (bytes, here, sym (on-record ∙ quantity), inr (inr (ap is_some quantity)))

      pub bad-item : s.item ≢ item → IsBadCard f item
      bad-item ne =
          let wrong : quantity_in item bytes ≡ None = ap (option_and_then (quantity_if item)) reads
          ∙ rw (ne_eqb s.item item ne) refl in
          record {
            bytes = bytes;
            here = here;
            bad = λ good. ⊎_elim (λ e. none-some s (sym blank-record ∙ ap stock_card_of (sym e) ∙ reads))
                (λ some. false≢true (sym (ap is_some wrong) ∙ some)) good;
            judged = left.other;
          }

    pub bad-bytes : (bytes ≢ empty_record 18) × (stock_card_of bytes ≡ None) → IsBadCard f item
    bad-bytes (full, none) = record {
      bytes = bytes;
      here = here;
      bad = λ good. ⊎_elim full (λ some. false≢true (sym (ap is_some (ap (option_and_then (quantity_if item)) none))
          ∙ some)) good;
      judged = left.other;
    }

-- a file has no more records than the table has places
pub stock-few : (img : Image) → IsImage img → (f : Files) (x : LedgerFiles) → AreFilesOf img f x
    → length f.stock ≤ 10160
stock-few img w f x a =
    let g = a.has.stock_file in
    let few : length g.blocks ≤ 683 =
    places-few g.blocks (blocks-once img a.has.layout a.has.stock_place g x.stock a.stock_of) in
    let count : ℕ = record_count (length g.blocks) g.last (record_length g.slot) in
    let many : length f.stock ≡ count = ap length a.has.stock ∙ length-records img g in
    let fit : count * 18 ≤ 254 * length g.blocks = subst (λ (n : ℕ). count * n ≤ 254 * length g.blocks)
    a.has.stock_length (records-fit img a.has.layout a.has.stock_place g x.stock a.stock_of w) in
    omega (arith, few, many, fit)

-- the tills' cards of a ledger, and a table of as many quantities as were read
module _ (f : Files) (x : NewQuantities) (h : HasJudgedTills f x) where
  -- an item without a record has no card
  pub no-record : (item : ℕ) → record_at f.stock item ≡ None → (state_of f.stock f.requests).ledger.cards item ≡ None
  no-record item e = elim (overlays (results (intents (cards_in f.requests))) item) [
    | inl (has, same, some) ↦ absurd (false≢true (sym (ap is_some e) ∙ h.there item has))
    | inr (none, under) ↦ under (quantities f.stock) ∙ ap (option_and_then (quantity_in item)) e
  ]

  -- no item is read yet
  pub card-start : IsCountedTo f 0 (replicate 10160 None)
  card-start = record {
    long = length-replicate {A = Option ℕ} 10160 None;
    there = omega arith;
    below = λ item le. none item le;
    above = λ item lt. nth-none ℕ 10160 item;
    records = λ item bytes le here. absurd (no_first item bytes le here);
  }
    where
      none : (item : ℕ) → item ≤ 0
          → nth {X = ℕ} (replicate 10160 None) item ≡ (state_of f.stock f.requests).ledger.cards item
      none zero le = sym (no-record zero refl)
      none (suc item) le = absurd (omega (arith, le))

      no_first : (item : ℕ) (bytes : List ℕ) → item ≤ 0 → record_at f.stock item ≡ Some bytes → ⊥
      no_first zero bytes le here = none-some bytes here
      no_first (suc item) bytes le here = omega (arith, le)

  -- one item more
  module _ (n : ℕ) (table : List (Option ℕ)) (few : n ≤ 10160) (c : IsCountedTo f n table) where
    pub card-lowest : IsBadCard f (n + 1) → IsLowest (IsBadCard f) (n + 1)
    card-lowest bad =
        record { here = bad; lower = λ k lt b. ⊎_elim b.judged b.bad (c.records k b.bytes (omega (arith, lt)) b.here) }

    pub card-more : (quantity : Option ℕ) → n < 10160 → IsJudgedItem f (n + 1) (Some quantity)
        → IsCountedTo f (n + 1) (set table n quantity)
    card-more quantity lt (bytes, here, is, good) = record {
      long = length-set table n quantity ∙ c.long;
      there = (record-within f.stock (n + 1) (ap is_some here)).1;
      below = λ item le. elim (cases_eq item (n + 1)) [
        | inl e ↦ ap (nth (set table n quantity)) e ∙ nth-set_same table n quantity (omega (arith, lt, c.long)) ∙ is
            ∙ ap (state_of f.stock f.requests).ledger.cards (sym e)
        | inr ne ↦ nth-set_other table n item quantity ne ∙ c.below item (omega (arith, le, ne))
      ];
      above = λ item gt. nth-set_other table n item quantity (λ e. omega (arith, gt, e))
          ∙ c.above item (omega (arith, gt));
      records = λ item b le there. elim (cases_eq item (n + 1)) [
        | inl e ↦
            let same : bytes ≡ b = same_Some bytes b (sym here ∙ ap (record_at f.stock) (sym e) ∙ there) in
            let P : List ℕ → Type 0 = λ y. IsIntended f.requests item ⊎ IsStockRecord item y in
            let Q : ℕ → Type 0 = λ k. IsIntended f.requests k ⊎ IsStockRecord k bytes in
            subst P same (subst Q (sym e) good)
        | inr ne ↦ c.records item b (omega (arith, le, ne)) there
      ];
    }

    -- the last item, or the last for which the table has a place
    pub cards-done : length f.stock ≤ 10160 → (n ≡ 10160) ⊎ (length f.stock < n + 1) → AreCards f table
    cards-done small end = record {
      quantities = λ item. elim (cases_lt n item) [
        | inr le ↦ c.below item le
        | inl gt ↦ c.above item gt ∙ sym (no-record item (record_at-past f.stock item (past item gt)))
      ];
      records = λ item bytes here. elim (cases_lt n item) [
        | inr le ↦ c.records item bytes le here
        | inl gt ↦ absurd (none-some bytes (sym (record_at-past f.stock item (past item gt)) ∙ here))
      ];
    }
      where
        past : (item : ℕ) → n < item → length f.stock < item
        past item gt = elim end [ inl e ↦ omega (arith, e, small, gt) | inr lt ↦ omega (arith, lt, gt) ]
