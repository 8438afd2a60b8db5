-- The tills' cards that were read are those of the files, and so are the open intents among them.
use Rattle.std.proofs.Common.{ℕ, zero, suc, ◌≡◌, ◌≤◌, ◌+◌, ⊎_elim, List, [], ◌∷◌, ◌++◌, None, Option, Some, add-one, ap}
use Rattle.std.proofs.Common.{arith, get_or, length, map, refl, subst, sym, take, ◌∙◌}
use Rattle.std.specs.Prelude.{Contains, IfSome, IsSome, is_some, slice_get}
use Rattle.std.specs.Option.{option_and_then}
use Rattle.std.proofs.lemmas.List.{append-nil}
use Rattle.std.proofs.lemmas.Option.{none-some}
use Rattle.disk_layout.proofs.lemmas.lists.Once.{Contains-nil}
use Rattle.request_cards.proofs.CardReading.{card_is}
use Rattle.request_cards.specs.CardReading.{request_card_of}
use Rattle.request_cards.specs.CardTexts.{Card, IsCard}
use Rattle.host_session.specs.shop.Files.{Files, record_at}
use Rattle.host_session.specs.shop.LoadedShop.{AreCards, AreTills, HasJudgedTills, HasTills, IsIntentOf, IsOnlyIntent}
use Rattle.host_session.specs.shop.LoadedShop.{given, listed}
use Rattle.host_session.specs.session.Opening.{HasNoBadTill, LacksRecord, open_intents}
use Rattle.host_session.specs.shop.Shop.{AreLedgerRecords, IsIntended, card_at, cards_in, intents, items, open_in}
use Rattle.host_session.specs.shop.Shop.{results, results_of}
use Rattle.host_session.specs.declared.shop.intents.Intent.{Intent}
use Rattle.host_session.specs.declared.shop.intents.NewQuantities.{NewQuantities}
use Rattle.host_session.proofs.lemmas.shop.Overlays.{open_in-pending}
use Rattle.request_cards.proofs.Tables.{nth-at}

-- two tables with the same cards have the same open intents
pub intents-same : (xs ys : List (Option Card)) → ((k : ℕ) → get_or xs k None ≡ get_or ys k None)
    → intents xs ≡ intents ys
intents-same [] [] h = refl
intents-same [] (y ∷ ys) h = ap (λ o. open_in o ++ []) (h 0) ∙ (λ i. open_in y ++ intents-same [] ys (λ k. h (suc k)) i)
intents-same (x ∷ xs) [] h = (λ i. open_in (h 0 i) ++ intents-same xs [] (λ k. h (suc k)) i)
intents-same (x ∷ xs) (y ∷ ys) h = λ i. open_in (h 0 i) ++ intents-same xs ys (λ k. h (suc k)) i

-- the card at a place of a list of cards
pub card_at-get : (cs : List (Option Card)) (k : ℕ) → card_at cs (suc k) ≡ get_or cs k None
card_at-get [] k = refl
card_at-get (x ∷ cs) zero = refl
card_at-get (x ∷ cs) (suc k) = card_at-get cs k

pub table-intents : (f : Files) (table : List (Option Card)) → HasTills f table
    → intents table ≡ intents (cards_in f.requests)
table-intents f table h = intents-same table (cards_in f.requests) (λ k. sym (nth-at table k) ∙ h (k + 1)
    ∙ ap (card_at (cards_in f.requests)) (add-one k) ∙ card_at-get (cards_in f.requests) k)

-- a till's card stands in its record
pub card-record_at : (rs : List (List ℕ)) (till : ℕ) (c : Card) → card_at (cards_in rs) till ≡ Some c
    → (bytes : List ℕ) × (record_at rs till ≡ Some bytes) × (request_card_of bytes ≡ Some c)
card-record_at rs zero c e = absurd (none-some c e)
card-record_at rs (suc n) c e = by 64 rs n e
  where
    by : (m : ℕ) (rs : List (List ℕ)) (n : ℕ)
        → option_and_then (λ (o : Option Card). o) (slice_get (map request_card_of (take m rs)) n) ≡ Some c
        → (bytes : List ℕ) × (slice_get rs n ≡ Some bytes) × (request_card_of bytes ≡ Some c)
    by zero rs n e = absurd (none-some c e)
    by (suc m) [] n e = absurd (none-some c e)
    by (suc m) (r ∷ rs) zero e = (r, refl, e)
    by (suc m) (r ∷ rs) (suc n) e = by m rs n e

module _ (f : Files) (many : ℕ) (table : List (Option Card)) (a : AreTills f many table) where
  pub no-bad_till : HasNoBadTill f
  no-bad_till till x =
      let (good, has) = a.records till x.bytes x.low x.here in
      ⊎_elim (λ other. other good) has x.bad

  pub two-open : 2 ≤ length (intents table) → 2 ≤ open_intents f
  two-open two = omega (arith, two, ap length (table-intents f table a.table))

  -- an open intent stands in its till's record
  module _ (x : Intent) (h : IsOnlyIntent table (intents table) x) where
    stands : (bytes : List ℕ) × (record_at f.requests x.till ≡ Some bytes) × (request_card_of bytes ≡ Some x.card)
    stands = card-record_at f.requests x.till x.card (sym (a.table x.till) ∙ h.at)

    pub intent-fits : IsCard x.card
    intent-fits = let (bytes, here, reads) = stands in ((card_is bytes x.card).0 reads).0

    intent-results : results (intents (cards_in f.requests)) ≡ results_of x.card.newest
    intent-results = ap results (sym (table-intents f table a.table) ∙ h.only) ∙ append-nil (results_of x.card.newest)

    has-record : (item : ℕ) → IsIntended f.requests item → IsSome (record_at f.stock item)
    has-record item intended =
        let (bytes, here, reads) = stands in
        let (good, has) = a.records x.till bytes h.high here in
        let mine : Contains (items (results (open_in (Some x.card)))) item
        = subst (λ (cs : List Card). Contains (items (results cs)) item) (sym (table-intents f table a.table) ∙ h.only
        ∙ sym (open_in-pending x.card h.pending)) intended in
        by (record_at f.stock item) refl
        (λ none. has (subst (λ (o : Option Card). LacksRecord f.stock o) (sym reads) (item, mine, none)))
      where
        by : (o : Option (List ℕ)) → record_at f.stock item ≡ o → ¬ (record_at f.stock item ≡ None)
            → IsSome (record_at f.stock item)
        by None e some = absurd (some e)
        by (Some bytes) e some = ap is_some e

  pub given-fits : (o : Option Intent) → IsIntentOf table o
      → IfSome o (λ x. (1 ≤ x.till) × (x.till ≤ 64) × IsCard x.card)
  given-fits None h = tt
  given-fits (Some x) h = (h.low, h.high, intent-fits x h)

  pub judged-tills : (o : Option Intent) → IsIntentOf table o → (x : NewQuantities) → listed x ≡ given o
      → HasJudgedTills f x
  judged-tills None h x e =
      let none : intents (cards_in f.requests) ≡ [] = sym (table-intents f table a.table) ∙ h in record {
        no_bad_till = no-bad_till;
        few = omega (arith, ap length none);
        new = e ∙ sym (ap results none);
        there = λ item intended. absurd
            (Contains-nil item (subst (λ (cs : List Card). Contains (items (results cs)) item) none intended));
      }
  judged-tills (Some y) h x e = record {
    no_bad_till = no-bad_till;
    few = omega (arith, ap length (sym (table-intents f table a.table) ∙ h.only));
    new = e ∙ sym (intent-results y h);
    there = has-record y h;
  }

  -- both files are a ledger's
  pub ledger-judged : (cards : List (Option ℕ)) (x : NewQuantities) → HasJudgedTills f x → AreCards f cards
      → AreLedgerRecords f.stock f.requests
  ledger-judged cards x h are = record {
    request_records = λ till bytes low here. (a.records till bytes low here).0;
    one_intent = h.few;
    intent_has_records = h.there;
    stock_records = are.records;
  }
