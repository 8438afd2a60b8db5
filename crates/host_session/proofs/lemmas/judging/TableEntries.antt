-- One entry of a table, and the open intents of records up to one more.
use Rattle.std.proofs.Common.{ℕ, zero, suc, ◌≡◌, ◌<◌, ◌≤◌, ◌+◌, List, [], ◌∷◌, ◌++◌, None, Option, Some, true}
use Rattle.std.proofs.Common.{ap, arith, append_assoc, length, length-append, refl, sym}
use Rattle.std.proofs.Common.{take, drop, ◌∙◌, get_or}
use Rattle.std.specs.Prelude.{is_some, slice_get}
use Rattle.std.proofs.lemmas.Bool.{false≢true}
use Rattle.std.proofs.lemmas.List.{append-nil, take-append-drop}
use Rattle.std.proofs.lemmas.List.Concat.{flat_map-append}
use Rattle.std.proofs.lemmas.Option.{get_or_from_slice_get, none-some, same_Some}
use Rattle.disk_layout.specs.Records.{empty_record}
use Rattle.request_cards.specs.CardReading.{request_card_of}
use Rattle.request_cards.specs.CardTexts.{Card}
use Rattle.host_session.specs.shop.Files.{record_at}
use Rattle.host_session.specs.shop.LoadedShop.{IsIntentAmong}
use Rattle.host_session.specs.shop.Shop.{intents, open_in}
use Rattle.request_cards.specs.Tables.{nth}
use Rattle.request_cards.proofs.Tables.{nth-at}
use Rattle.host_session.specs.declared.shop.intents.Intent.{Intent}
use Rattle.host_session.proofs.lemmas.shop.Overlays.{open_in-pending}

-- a record past the last one
pub record_at-past : {X : Type 0} (xs : List X) (r : ℕ) → length xs < r → record_at xs r ≡ None
record_at-past xs zero lt = absurd (omega (arith, lt))
record_at-past xs (suc n) lt = past xs n (omega (arith, lt))
  where
    past : {X : Type 0} (xs : List X) (n : ℕ) → length xs ≤ n → slice_get xs n ≡ None
    past [] n le = refl
    past (x ∷ xs) zero le = absurd (omega (arith, le))
    past (x ∷ xs) (suc n) le = past xs n (omega (arith, le))

-- an empty record is no card
pub blank-request : request_card_of (empty_record 127) ≡ None
unfolding request_card_of
blank-request = refl

-- the open intents up to one card more
pub intents-next : (xs : List (Option Card)) (k : ℕ) (o : Option Card) → slice_get xs k ≡ Some o
    → intents (take (suc k) xs) ≡ intents (take k xs) ++ open_in o
intents-next [] k o e = absurd (none-some o e)
intents-next (x ∷ xs) zero o e = append-nil (open_in x) ∙ ap open_in (same_Some x o e)
intents-next (x ∷ xs) (suc k) o e = ap (λ cs. open_in x ++ cs) (intents-next xs k o e)
    ∙ sym (append_assoc (open_in x) (intents (take k xs)) (open_in o))

-- what was read at a place of a list stands there
pub got : {X : Type 0} (xs : List X) (k : ℕ) (d x : X) → k < length xs → get_or xs k d ≡ x → slice_get xs k ≡ Some x
got [] k d x lt e = absurd (omega (arith, lt))
got (y ∷ xs) zero d x lt e = ap Some e
got (y ∷ xs) (suc k) d x lt e = got xs k d x (omega (arith, lt)) e

module _ (table : List (Option Card)) (k : ℕ) (d : Option Card) (lt : k < 64) (long : length table ≡ 64) where
  at-place : (o : Option Card) → get_or table k d ≡ o → slice_get table k ≡ Some o
  at-place o e = got table k d o (omega (arith, lt, long)) e

  pub in-place : (o : Option Card) → get_or table k d ≡ o → nth table (k + 1) ≡ o
  in-place o e = nth-at table k ∙ get_or_from_slice_get table k o None (at-place o e)

  -- a second one
  pub among-two : (c : Card) → get_or table k d ≡ Some c → c.pending ≡ true → (o : Option Intent) → is_some o ≡ true
      → IsIntentAmong table (intents (take k table)) o → 2 ≤ length (intents table)
  among-two c e pending None some h = absurd (false≢true some)
  among-two c e pending (Some x) some h =
      let one : length (intents (take k table)) ≡ 1 = ap length h.only in
      let next : length (intents (take (suc k) table)) ≡ length (intents (take k table)) + 1
      = ap length (intents-next table k (Some c) (at-place (Some c) e))
      ∙ length-append (intents (take k table)) (open_in (Some c))
      ∙ ap (λ cs. length (intents (take k table)) + length cs) (open_in-pending c pending) in
      let split : length (intents table) ≡ length (intents (take (suc k) table)) + length (intents (drop (suc k) table))
      = ap (λ cs. length (intents cs)) (sym (take-append-drop (suc k) table))
      ∙ ap length (flat_map-append open_in (take (suc k) table) (drop (suc k) table))
      ∙ length-append (intents (take (suc k) table)) (intents (drop (suc k) table)) in
      omega (arith, one, next, split)
