-- The open intent of a table, completed: none is open then, and it is the same shop's.
use Rattle.std.proofs.Common.{ℕ, ◌≡◌, ◌<◌, ◌+◌, inl, inr, List, Option, Some, ap, arith, length, set, sym, ◌∙◌}
use Rattle.std.specs.Option.{option_and_then}
use Rattle.std.proofs.lemmas.Bool.{cases_eq}
use Rattle.d64_image.specs.Images.{Image}
use Rattle.request_cards.proofs.CardReading.{card_is}
use Rattle.request_cards.specs.CardReading.{request_card_of}
use Rattle.request_cards.specs.CardTexts.{Card, IsCard, card_text}
use Rattle.host_session.specs.shop.Completing.{HasIntent, IsCompleted, answered_card}
use Rattle.host_session.specs.shop.Files.{Files, record_at, with_record}
use Rattle.host_session.specs.shop.LoadedShop.{HasTills, IsOnlyIntent}
use Rattle.host_session.specs.session.Settling.{HasClosedTable, HasTable}
use Rattle.host_session.specs.shop.Shop.{Shop, card_at, cards_in, intents, shop_of}
use Rattle.host_session.specs.declared.shop.intents.Intent.{Intent}
use Rattle.host_session.proofs.lemmas.judging.JudgedTills.{card-record_at, table-intents}
use Rattle.host_session.proofs.lemmas.shop.Lists.{record_at-map_take, record_at-with_other, record_at-with_same}
use Rattle.host_session.proofs.lemmas.shop.Moments.{cards-with}
use Rattle.host_session.proofs.lemmas.shop.Steps.{tills-same}
use Rattle.request_cards.specs.Tables.{nth}
use Rattle.request_cards.proofs.Tables.{nth-set_other, nth-set_same}
use Rattle.host_session.proofs.lemmas.writing.IntentAnswers.{answered-read}

-- a till's card written, in its record and in the table
pub table-with : (requests : List (List ℕ)) (table : List (Option Card)) (k : ℕ) (was bytes : List ℕ) (o : Option Card)
    → k < 64 → length table ≡ 64 → record_at requests (k + 1) ≡ Some was → request_card_of bytes ≡ o
    → ((t : ℕ) → nth table t ≡ card_at (cards_in requests) t) → (t : ℕ)
    → nth (set table k o) t ≡ card_at (cards_in (with_record requests (k + 1) bytes)) t
table-with requests table k was bytes o lt long here reads all t =
    let now : cards_in (with_record requests (k + 1) bytes) ≡ with_record (cards_in requests) (k + 1) o =
    cards-with requests (k + 1) bytes ∙ ap (with_record (cards_in requests) (k + 1)) reads in
    let old : record_at (cards_in requests) (k + 1) ≡ Some (request_card_of was) =
    record_at-map_take request_card_of 64 requests (k + 1) was (omega (arith, lt)) here in
    elim (cases_eq t (k + 1)) [
      | inl e ↦
          ap (nth (set table k o)) e ∙ nth-set_same table k o (omega (arith, lt, long))
          ∙ sym (ap (card_at (cards_in (with_record requests (k + 1) bytes))) e ∙ ap (λ cs. card_at cs (k + 1)) now
          ∙ ap (option_and_then (λ (c : Option Card). c)) (record_at-with_same (cards_in requests) (k + 1)
          (request_card_of was) o old))
      | inr ne ↦
          nth-set_other table k t o ne ∙ all t
          ∙ sym (ap (λ cs. card_at cs t) now
          ∙ ap (option_and_then (λ (c : Option Card). c)) (record_at-with_other (cards_in requests) t (k + 1) o ne))
    ]

-- the open intent of a table is one of the files
pub has-intent : (img : Image) (s : Shop) (table : List (Option Card)) (h : HasTable img s table) (x : Intent)
    → IsOnlyIntent table (intents table) x → HasIntent h.shop.files x.till x.card
has-intent img s table h x only =
    let (bytes, here, reads) = card-record_at h.shop.files.requests x.till x.card (sym (h.tills x.till) ∙ only.at) in
    record {
      records = h.shop.records;
      low = only.low;
      high = only.high;
      was = bytes;
      here = here;
      reads = reads;
      is_open = only.pending;
    }

-- and its card has the ranges of one
pub intent-card : (img : Image) (s : Shop) (table : List (Option Card)) (h : HasTable img s table) (x : Intent)
    → IsOnlyIntent table (intents table) x → IsCard x.card
intent-card img s table h x only =
    let (bytes, here, reads) = card-record_at h.shop.files.requests x.till x.card (sym (h.tills x.till) ∙ only.at) in
    ((card_is bytes x.card).0 reads).0

-- once it is completed none is open, and it is the same shop's
pub completed-table : (img : Image) (s : Shop) (table : List (Option Card)) (h : HasTable img s table) (x : Intent)
    (k : ℕ) → k + 1 ≡ x.till → length table ≡ 64 → IsOnlyIntent table (intents table) x → (new : Image)
    → IsCompleted h.shop.files x.till x.card new → HasClosedTable new s (set table k (Some (answered_card x.card)))
completed-table img s table h x k at long only new done =
    let f = h.shop.files in
    let (was, here, reads) = card-record_at f.requests x.till x.card (sym (h.tills x.till) ∙ only.at) in
    let fits : IsCard x.card = ((card_is was x.card).0 reads).0 in
    let text : List ℕ = card_text (answered_card x.card) in
    let requests : List (List ℕ) = with_record f.requests x.till text in
    let files : Files = record f { stock = done.stock; requests = requests; blocks = done.blocks } in
    let same : shop_of files ≡ shop_of f = λ i. record (shop_of f) {
      state = done.same i;
      tills =
          tills-same f.requests x.till text i;
    } in
    let all : HasTills files (set table k (Some (answered_card x.card))) = λ t.
    table-with f.requests table k was text (Some (answered_card x.card)) (omega (arith, at, only.high)) long
    (ap (record_at f.requests) at ∙ here) (answered-read x.card fits) h.tills t
    ∙ ap (λ n. card_at (cards_in (with_record f.requests n text)) t) at in
    record {
      has = record {
        shop = record { files = files; has = done.has; records = done.records; is = same ∙ h.shop.is };
        tills = all;
      };
      no_intent = table-intents files (set table k (Some (answered_card x.card))) all ∙ done.no_intent;
    }
