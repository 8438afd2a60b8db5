-- Tables of the tills' cards as they are read, and the open intents in them.
use Rattle.std.proofs.Common.{ℕ, zero, suc, ◌≡◌, ◌≢◌, ◌<◌, ◌≤◌, ◌+◌, ◌⊎◌, ⊎_elim, inl, inr, List, [], ◌∷◌, None, Option}
use Rattle.std.proofs.Common.{Some, false, true, ap, arith, length, refl, replicate, set, subst, sym, take, ◌∙◌, min}
use Rattle.std.specs.Prelude.{Contains, is_some, slice_get}
use Rattle.std.specs.Option.{option_and_then}
use Rattle.std.proofs.lemmas.Bool.{cases_eq, cases_lt, false≢true}
use Rattle.std.proofs.lemmas.List.{append-nil, length-map, length-set, length-take}
use Rattle.std.proofs.lemmas.Option.{none-some, same_Some}
use Rattle.disk_layout.proofs.lemmas.lists.Once.{Contains-nil}
use Rattle.disk_layout.specs.Records.{empty_record}
use Rattle.request_cards.specs.CardReading.{request_card_of}
use Rattle.request_cards.specs.CardTexts.{Card}
use Rattle.host_session.specs.shop.Files.{Files, record_at}
use Rattle.host_session.specs.shop.Found.{Tells, TellsRecord}
use Rattle.host_session.specs.declared.shop.record_content.RecordContent.{RecordContent}
use Rattle.host_session.specs.shop.LoadedShop.{AreTills, IsJudgedTill, IsReadTo, PassesRecords, listed}
use Rattle.host_session.specs.session.Opening.{IsBadTill, IsLowest, LacksRecord}
use Rattle.host_session.specs.shop.Shop.{IsRequestRecord, card_at, cards_in, items, open_in, results, results_of}
use Rattle.host_session.specs.declared.shop.intents.NewQuantities.{NewQuantities}
use Rattle.host_session.proofs.lemmas.shop.Lists.{record-within, record_at-map_take}
use Rattle.host_session.proofs.lemmas.shop.Overlays.{open_in-answered, open_in-pending}
use Rattle.host_session.proofs.lemmas.judging.TableEntries.{blank-request}
use Rattle.request_cards.specs.Tables.{nth}
use Rattle.request_cards.proofs.Tables.{nth-none, nth-set_other, nth-set_same}
use Rattle.host_session.proofs.lemmas.judging.TableEntries.{record_at-past}

-- what a read of a record tells
pub told-none : {C : Type 0} (card_of : List ℕ → Option C) (long : ℕ) (rs : List (List ℕ)) (r : ℕ) (o : Option (RecordContent C))
    → ((h : RecordContent C) → o ≢ Some h) → TellsRecord card_of long rs r o → length rs < r
told-none card_of long rs r None ne told = told
told-none card_of long rs r (Some h) ne told = absurd (ne h refl)

pub told-some : {C : Type 0} (card_of : List ℕ → Option C) (long : ℕ) (rs : List (List ℕ)) (r : ℕ) (o : Option (RecordContent C))
    (h : RecordContent C) → o ≡ Some h → TellsRecord card_of long rs r o
    → (bytes : List ℕ) × (record_at rs r ≡ Some bytes) × Tells card_of long bytes h
told-some card_of long rs r o h e told = subst (TellsRecord card_of long rs r) e told

-- a till's record, judged
module _ (f : Files) (till : ℕ) (bytes : List ℕ) (here : record_at f.requests till ≡ Some bytes) where
  pub judged-empty : bytes ≡ empty_record 127 → IsJudgedTill f till (Some None)
  judged-empty e =
      (bytes, here, ap request_card_of e ∙ blank-request, inl e, λ (item, has, none). Contains-nil item has)

  pub judged-card : (c : Card) → request_card_of bytes ≡ Some c → ¬ (LacksRecord f.stock (Some c))
      → IsJudgedTill f till (Some (Some c))
  judged-card c reads has = (bytes, here, reads, inr (ap is_some reads), has)

  pub bad-other : till ≤ 64 → (bytes ≢ empty_record 127) × (request_card_of bytes ≡ None) → IsBadTill f till
  bad-other low (full, none) = record {
    bytes = bytes;
    low = low;
    here = here;
    bad = inl (λ good. ⊎_elim full (λ some. false≢true (sym (ap is_some none) ∙ some)) good);
  }

  pub bad-intent : till ≤ 64 → (c : Card) → request_card_of bytes ≡ Some c → LacksRecord f.stock (Some c)
      → IsBadTill f till
  bad-intent low c reads lacks = record {
    bytes = bytes;
    low = low;
    here = here;
    bad = inr (subst (λ (o : Option Card). LacksRecord f.stock o) (sym reads) lacks);
  }

-- whether an open intent lacks a record
pub lacks-answered : (stock : List (List ℕ)) (c : Card) → c.pending ≡ false → ¬ (LacksRecord stock (Some c))
lacks-answered stock c answered (item, has, none) =
    Contains-nil item (subst (λ (cs : List Card). Contains (items (results cs)) item) (open_in-answered c answered) has)

module _ (stock : List (List ℕ)) (c : Card) (pending : c.pending ≡ true) (x : NewQuantities)
    (same : listed x ≡ results_of c.newest) (count : ℕ) (many : count ≡ length stock) where
  intended : results (open_in (Some c)) ≡ listed x
  intended = ap results (open_in-pending c pending) ∙ append-nil (results_of c.newest) ∙ sym same

  pub lacks-none : ((item : ℕ) → Contains (items (listed x)) item → 1 ≤ item) → ¬ (PassesRecords x count)
      → ¬ (LacksRecord stock (Some c))
  lacks-none low within (item, has, none) =
      let here : Contains (items (listed x)) item = subst (λ (qs : List (ℕ × ℕ)). Contains (items qs) item) intended
      has in
      within (item, here, omega (arith, many, past stock item (low item here) none))
    where
      gone : (rs : List (List ℕ)) (n : ℕ) → slice_get rs n ≡ None → length rs ≤ n
      gone [] n e = omega arith
      gone (r ∷ rs) zero e = absurd (none-some r (sym e))
      gone (r ∷ rs) (suc n) e = omega (arith, gone rs n e)

      past : (rs : List (List ℕ)) (r : ℕ) → 1 ≤ r → record_at rs r ≡ None → length rs < r
      past rs zero low e = absurd (omega (arith, low))
      past rs (suc n) low e = omega (arith, gone rs n e)

  pub lacks-some : PassesRecords x count → LacksRecord stock (Some c)
  lacks-some (item, has, past) = (
    item,
    subst (λ (qs : List (ℕ × ℕ)). Contains (items qs) item) (sym intended) has,
    record_at-past stock item (omega (arith, many, past)),
  )

-- no till is read yet
pub till-start : (f : Files) → IsReadTo f 0 (replicate 64 None)
till-start f = record {
  long = refl;
  there = omega arith;
  below = λ t le. none t le;
  above = λ t lt. nth-none Card 64 t;
  records = λ t bytes le here. absurd (no_record t bytes le here);
}
  where
    none : (t : ℕ) → t ≤ 0 → nth {X = Card} (replicate 64 None) t ≡ card_at (cards_in f.requests) t
    none zero le = refl
    none (suc t) le = absurd (omega (arith, le))

    no_record : (t : ℕ) (bytes : List ℕ) → t ≤ 0 → record_at f.requests t ≡ Some bytes → ⊥
    no_record zero bytes le here = none-some bytes here
    no_record (suc t) bytes le here = omega (arith, le)

-- one till more
module _ (f : Files) (n : ℕ) (table : List (Option Card)) (few : n ≤ 64) (h : IsReadTo f n table) where
  -- what was read so far is good
  pub none-bad : (t : ℕ) → t ≤ n → ¬ (IsBadTill f t)
  none-bad t le x =
      let (good, has) = h.records t x.bytes le x.here in
      ⊎_elim (λ other. other good) has x.bad

  pub till-lowest : IsBadTill f (n + 1) → IsLowest (IsBadTill f) (n + 1)
  till-lowest bad = record { here = bad; lower = λ k lt. none-bad k (omega (arith, lt)) }

  pub till-more : (card : Option Card) → n < 64 → IsJudgedTill f (n + 1) (Some card)
      → IsReadTo f (n + 1) (set table n card)
  till-more card lt (bytes, here, reads, good, has) = record {
    long = length-set table n card ∙ h.long;
    there = (record-within f.requests (n + 1) (ap is_some here)).1;
    below = λ t le. elim (cases_eq t (n + 1)) [
      | inl e ↦ ap (nth (set table n card)) e ∙ nth-set_same table n card (omega (arith, lt, h.long))
          ∙ sym (ap (card_at (cards_in f.requests)) e ∙ at)
      | inr ne ↦ nth-set_other table n t card ne ∙ h.below t (omega (arith, le, ne))
    ];
    above = λ t gt. nth-set_other table n t card (λ e. omega (arith, gt, e)) ∙ h.above t (omega (arith, gt));
    records = λ t b le there. elim (cases_eq t (n + 1)) [
      | inl e ↦
          let same : bytes ≡ b = same_Some bytes b (sym here ∙ ap (record_at f.requests) (sym e) ∙ there) in
          let P : List ℕ → Type 0 = λ x. IsRequestRecord x × ¬ (LacksRecord f.stock (request_card_of x)) in
          subst P same (good, subst (λ (o : Option Card). ¬ (LacksRecord f.stock o)) (sym reads) has)
      | inr ne ↦ h.records t b (omega (arith, le, ne)) there
    ];
  }
    where
      at : card_at (cards_in f.requests) (n + 1) ≡ card
      at = ap (option_and_then (λ c. c)) (record_at-map_take request_card_of 64 f.requests (n + 1) bytes
          (omega (arith, lt)) here) ∙ reads

  -- the last till, or the last that a card may stand for
  pub tills-done : (n ≡ 64) ⊎ (length f.requests < n + 1) → AreTills f n table
  tills-done end = record {
    count = many;
    table = all;
    records = λ t bytes high here. elim (cases_lt n t) [
      | inr le ↦ h.records t bytes le here
      | inl gt ↦ absurd (none-some bytes (sym (record_at-past f.requests t (past t high gt)) ∙ here))
    ];
  }
    where
      long : length (cards_in f.requests) ≡ min 64 (length f.requests)
      long = length-map (take 64 f.requests) request_card_of ∙ length-take 64 f.requests

      many : n ≡ length (cards_in f.requests)
      many = elim end [
        | inl e ↦ omega (arith, e, long, h.there)
        | inr lt ↦ by (omega (arith, lt, h.there)) (cases_lt 64 (length f.requests))
      ]
        where
          by : n ≡ length f.requests → (64 < length f.requests) ⊎ (length f.requests ≤ 64)
              → n ≡ length (cards_in f.requests)
          by e (inr le) = omega (arith, e, long, le)
          by e (inl gt) = omega (arith, e, long, gt, few)

      past : (t : ℕ) → t ≤ 64 → n < t → length f.requests < t
      past t high gt = elim end [ inl e ↦ omega (arith, e, high, gt) | inr lt ↦ omega (arith, lt, gt) ]

      all : (t : ℕ) → nth table t ≡ card_at (cards_in f.requests) t
      all t = elim (cases_lt n t) [
        | inr le ↦ h.below t le
        | inl gt ↦ h.above t gt
            ∙ sym (ap (option_and_then (λ (c : Option Card). c)) (record_at-past (cards_in f.requests) t
            (omega (arith, gt, many))))
      ]
