-- A card is read where the bytes are its text, and nowhere else.
use Rattle.std.proofs.Common.{◌≡◌, ℕ, ◌+◌, Bool, true, false, List, [], ◌∷◌, ◌++◌, drop, get_or, refl, ap, sym, subst}
use Rattle.std.proofs.Common.{◌∙◌, arith, append_assoc, Option, Some, None, inl, inr, ◌⊎◌}
use Rattle.std.specs.Prelude.{◌==◌, ◌&&◌, replicate, IfNone, IfSome, slice_index, unwrap_or, if◌then◌else◌, bytes_eq}
use Rattle.std.proofs.lemmas.Bool.{and_parts, and_from, not-true}
use Rattle.std.proofs.lemmas.Slice.Eq.{bytes_eq-Decides}
use Rattle.request_cards.specs.declared.answer.Answer.{Answer}
use Rattle.request_cards.specs.declared.answer.Answer.TheVariants as answers
use Rattle.request_cards.specs.declared.kind.Kind.{Kind}
use Rattle.request_cards.specs.declared.kind.Kind.TheVariants.{Receive, Move}
use Rattle.request_cards.specs.Requests.{same_kind}
use Rattle.request_cards.specs.Ledgers.{Entry}
use Rattle.request_cards.specs.Texts.{commas}
use Rattle.request_cards.specs.CardTexts.{Card, IsCard, IsCardText, IsEntry, IsStockText, Stock, answer_code}
use Rattle.request_cards.specs.CardTexts.{answer_quantity, answer_to_quantity, card_text, entry_fields, entry_text}
use Rattle.request_cards.specs.CardTexts.{goes_with, old_entry_text, second_text, stock_text}
use Rattle.request_cards.specs.CardReading.{number_at, kind_at, answer_with, fields_at, entry_at, old_card_at}
use Rattle.request_cards.specs.CardReading.{new_card_at, is_new_card, is_old_card, read_as, stock_at, is_stock}
use Rattle.request_cards.specs.CardReading.{stock_card_of, request_card_of}
use Rattle.request_cards.proofs.Cards.{card_cut, card_same, second_is, second_mark, second_marked, state_of}
use Rattle.line_text.proofs.lemmas.digits.Fields.{if_some}
use Rattle.request_cards.proofs.Widths.{front_digits, stock_cut}
use Rattle.request_cards.proofs.EntryFields.{IsCut, body_same, code_low, entry_same, fields_cut, kind_stands}
use Rattle.request_cards.proofs.Entries.{goes_nowhere, one_quantity, to_high, whole_cut}
use Rattle.request_cards.proofs.CardRanges.{stock_decides, new_is, card_fits, old_is}

-- what has its own text is read, and what is read has its text
text_reads : {A : Type 0} (bytes : List ℕ) (x : A) (fits : Bool) (text : List ℕ) → fits ≡ true → bytes ≡ text
    → read_as bytes x fits text ≡ Some x
text_reads bytes x fits text f e = rw (f, (bytes_eq-Decides bytes text).1 e) refl

read_text : {A : Type 0} (bytes : List ℕ) (x y : A) (fits : Bool) (text : List ℕ) → read_as bytes x fits text ≡ Some y
    → (fits ≡ true) × (bytes ≡ text) × (x ≡ y)
read_text bytes x y fits text e =
    let p = if_some (fits && bytes_eq bytes text) x y e in
    let q = and_parts fits (bytes_eq bytes text) p.0 in
    (q.0, (bytes_eq-Decides bytes text).0 q.1, p.1)

-- a stock card is read
stock_reads : (bytes : List ℕ) (s : Stock) → IsStockText bytes s → stock_card_of bytes ≡ Some s
unfolding stock_card_of
stock_reads bytes s m =
    let cut = stock_cut bytes s m.1 in
    let item = front_digits 5 s.item _ _ (omega (arith, m.0.item_high)) cut.item in
    let quantity = front_digits 9 s.quantity _ _ (omega (arith, m.0.quantity_high)) cut.quantity in
    ap (λ (t : Stock). read_as bytes t (is_stock t) (stock_text t)) (same item quantity)
    ∙ text_reads bytes s (is_stock s) (stock_text s) ((stock_decides s).1 m.0) m.1
  where
    same : number_at bytes 2 5 ≡ s.item → number_at bytes 8 9 ≡ s.quantity → stock_at bytes ≡ s
    same item quantity i = record { item = item i; quantity = quantity i }

pub stock_is : (bytes : List ℕ) (s : Stock) → (stock_card_of bytes ≡ Some s → IsStockText bytes s)
    × (IsStockText bytes s → stock_card_of bytes ≡ Some s)
unfolding stock_card_of
stock_is bytes s = (
  (λ e.
      let p = read_text bytes (stock_at bytes) s (is_stock (stock_at bytes)) (stock_text (stock_at bytes)) e in
      subst (IsStockText bytes) p.2 ((stock_decides (stock_at bytes)).0 p.0, p.1)),
  stock_reads bytes s,
)

-- an answer is told by its digit and its quantities
answer_again : (k : Kind) (a : Answer) → goes_with k a ≡ true
    → answer_with (same_kind k Move) (answer_code a) (answer_quantity a) (answer_to_quantity a) ≡ a
answer_again k (answers.Done h) e = rw (not-true (same_kind k Move) e) refl
answer_again k (answers.Moved h g) e = rw e refl
answer_again k (answers.Short h) e = refl
answer_again k (answers.Over h) e = refl
answer_again k answers.NoCard e = refl
answer_again k answers.DiskFull e = refl
answer_again k answers.TooLarge e = refl

-- the fields of an entry are read where they stand
fields_read : (bytes : List ℕ) (at to g : ℕ) (p : Bool) (e : Entry) (rest : List ℕ) → IsCut bytes at p e rest
    → IsEntry e
    → to ≡ e.body.to → g ≡ answer_to_quantity e.answer → fields_at bytes at to g ≡ e
fields_read bytes at to g p e rest cut is goes second =
    let kind : kind_at bytes (at + 12) ≡ e.body.kind =
    ap (λ o. unwrap_or o Receive) (kind_stands bytes (at + 12) e.body.kind _ 0 cut.kind) in
    let number = front_digits 9 e.number _ _ (omega (arith, is.number_high)) cut.number in
    let item = front_digits 5 e.body.item _ _ (omega (arith, is.body.item_high)) cut.item in
    let quantity = front_digits 9 e.body.quantity _ _ (omega (arith, is.body.quantity_high)) cut.quantity in
    let code = front_digits 1 _ _ _ (code_low e.answer) cut.code in
    let first = front_digits 9 _ _ _ (omega (arith, is.quantity_high)) cut.answer in
    let answer : answer_with (same_kind (kind_at bytes (at + 12)) Move) (number_at bytes (at + 30) 1)
    (number_at bytes (at + 32) 9) g ≡ e.answer =
    (λ i. answer_with (same_kind (kind i) Move) (code i) (first i) (second i))
    ∙ answer_again e.body.kind e.answer is.fits in
    entry_same e _ _ _ number (body_same e.body _ _ _ to kind item quantity goes) answer

whole_reads : (bytes : List ℕ) (at : ℕ) (p : Bool) (e : Entry) (rest : List ℕ) → drop at bytes ≡ entry_text p e ++ rest
    → IsEntry e
    → entry_at bytes at ≡ e
whole_reads bytes at p e rest text is =
    let cut = whole_cut bytes at p e rest text in
    fields_read bytes at _ _ p e (drop (at + 41) bytes) (fields_cut bytes at p e (drop (at + 41) bytes) cut.fields) is
    (front_digits 5 e.body.to _ _ (to_high e.body is.body) cut.to)
    (front_digits 9 _ _ _ (omega (arith, is.to_quantity_high)) cut.to_quantity)

-- a version 1 card is read
old_text : (c : Card) → c.version ≡ 1 → card_text c ≡ commas (entry_fields c.pending c.newest [])
    ++ (13 ∷ replicate 85 0)
old_text c one =
    ap (λ v. card_text (record c { version = v })) one
    ∙ append_assoc (commas (entry_fields c.pending c.newest [])) (13 ∷ []) (replicate 85 0)

state_mark : (p : Bool) (e : Entry) (rest : List ℕ) → (get_or (commas (entry_fields p e []) ++ rest) 0 0 == 73) ≡ p
state_mark true e rest = refl
state_mark false e rest = refl

old_reads : (bytes : List ℕ) (c : Card) → IsCardText bytes c → c.version ≡ 1 → old_card_at bytes ≡ c
old_reads bytes c m one =
    let text = m.1 ∙ old_text c one in
    let plain = m.0.old one in
    let newest = fields_read bytes 0 0 0 c.pending c.newest _ (fields_cut bytes 0 c.pending c.newest _ text) m.0.newest
    (goes_nowhere c.newest.body.kind _ _ plain.1 m.0.newest.body.to) (one_quantity c.newest.body.kind _ plain.1
    m.0.newest.fits) in
    let state : (slice_index bytes 0 == 73) ≡ c.pending =
    ap (λ (xs : List ℕ). get_or xs 0 0 == 73) text ∙ state_mark c.pending c.newest _ in
    card_same c 1 _ _ None (sym one) state newest (sym plain.0)

-- the second entry is read
second_at : (bytes : List ℕ) (s : Option Entry) (rest : List ℕ) → IfSome s IsEntry
    → drop 59 bytes ≡ second_text s ++ rest
    → (if slice_index bytes 59 == 0 then None else Some (entry_at bytes 59)) ≡ s
second_at bytes s rest is text = by s (ap (λ x. x == 0) (second_marked bytes s rest 0 text)) is text
  where
    by : (s : Option Entry) → (slice_index bytes 59 == 0) ≡ (second_mark s == 0) → IfSome s IsEntry
        → drop 59 bytes ≡ second_text s ++ rest
        → (if slice_index bytes 59 == 0 then None else Some (entry_at bytes 59)) ≡ s
    by None e is text = rw e refl
    by (Some s) e is text = rw e (ap (λ x. Some x) (whole_reads bytes 59 false s _ text is))

-- a version 2 card is read
second_reads : (bytes : List ℕ) (c : Card) → IsCardText bytes c → c.version ≡ 2
    → (if slice_index bytes 59 == 0 then None else Some (entry_at bytes 59)) ≡ c.second
second_reads bytes c m two = second_at bytes c.second _ (second_is c m.0) (card_cut bytes c m.1 two).second

new_reads : (bytes : List ℕ) (c : Card) → IsCardText bytes c → c.version ≡ 2 → new_card_at bytes ≡ c
new_reads bytes c m two =
    let cut = card_cut bytes c m.1 two in
    card_same c 2 _ _ _ (sym two) (cut.state 0) (whole_reads bytes 1 c.pending c.newest _ cut.newest m.0.newest)
    (second_reads bytes c m two)

-- what was read of a card's text is that card
pub new_same : (bytes : List ℕ) (p : Bool) (e : Entry) (s : Option Entry)
    → drop 1 bytes ≡ entry_text p e ++ drop 59 bytes → IsEntry e
    → drop 59 bytes ≡ second_text s ++ drop 117 bytes → IfSome s IsEntry → (c : Card) → IsCardText bytes c
    → c.version ≡ 2
    → ◌≡◌ {A = Card} (record { version = 2; pending = p; newest = e; second = s }) c
new_same bytes p e s text is behind ranges c m two =
    let cut = card_cut bytes c m.1 two in
    card_same c 2 p e s (sym two) (sym (state_of bytes p e _ text) ∙ cut.state 0)
    (sym (whole_reads bytes 1 p e _ text is) ∙ whole_reads bytes 1 c.pending c.newest _ cut.newest m.0.newest)
    (sym (second_at bytes s _ ranges behind) ∙ second_reads bytes c m two)

pub old_same : (bytes : List ℕ) (p : Bool) (e : Entry) → bytes ≡ old_entry_text p e ++ drop 42 bytes → IsEntry e
    → (e.body.to ≡ 0) × (answer_to_quantity e.answer ≡ 0) → (c : Card) → IsCardText bytes c → c.version ≡ 1
    → ◌≡◌ {A = Card} (record { version = 1; pending = p; newest = e; second = None }) c
old_same bytes p e text is plain c m one =
    let front = text ∙ append_assoc (commas (entry_fields p e [])) (13 ∷ []) (drop 42 bytes) in
    let read = old_reads bytes c m one in
    let state : (slice_index bytes 0 == 73) ≡ p = ap (λ (xs : List ℕ). get_or xs 0 0 == 73) front ∙ state_mark p e _ in
    let newest = fields_read bytes 0 0 0 p e _ (fields_cut bytes 0 p e _ front) is (sym plain.0) (sym plain.1) in
    card_same c 1 p e None (ap (λ (d : Card). d.version) read) (sym state ∙ ap (λ (d : Card). d.pending) read)
    (sym newest ∙ ap (λ (d : Card). d.newest) read) (ap (λ (d : Card). d.second) read)

-- the first byte tells the version
old_first : (p : Bool) (e : Entry) (rest : List ℕ) → (get_or (commas (entry_fields p e []) ++ rest) 0 0 == 50) ≡ false
old_first true e rest = refl
old_first false e rest = refl

version_of : (bytes : List ℕ) (c : Card) → bytes ≡ card_text c → IsCard c
    → ((c.version ≡ 1) × ((get_or bytes 0 0 == 50) ≡ false)) ⊎ ((c.version ≡ 2) × ((get_or bytes 0 0 == 50) ≡ true))
version_of bytes c e is = elim is.version [
  | inl one ↦ inl (
    one,
    ap (λ (xs : List ℕ). get_or xs 0 0 == 50) (e ∙ old_text c one)
        ∙ old_first c.pending c.newest (13 ∷ replicate 85 0),
  )
  | inr two ↦ inr (
    two,
    ap (λ (xs : List ℕ). get_or xs 0 0 == 50) (e
        ∙ ap (λ v. card_text (record c { version = v })) two),
  )
]

card_reads : (bytes : List ℕ) (c : Card) → IsCardText bytes c → request_card_of bytes ≡ Some c
unfolding request_card_of
card_reads bytes c m = elim (version_of bytes c m.1 m.0) [
  | inl a ↦ rw a.1 (
      ap (λ (d : Card). read_as bytes d (is_old_card d) (card_text d)) (old_reads bytes c m a.0)
      ∙ text_reads bytes c (is_old_card c) (card_text c) (and_from _ _ (card_fits c m.0) (m.0.old a.0).1) m.1)
  | inr a ↦ rw a.1 (
      ap (λ (d : Card). read_as bytes d (is_new_card d) (card_text d)) (new_reads bytes c m a.0)
      ∙ text_reads bytes c (is_new_card c) (card_text c) (card_fits c m.0) m.1)
]

-- what is read is a card
read_card : (bytes : List ℕ) (c : Card) → request_card_of bytes ≡ Some c → IsCardText bytes c
unfolding request_card_of
read_card bytes c e = by (slice_index bytes 0 == 50) e
  where
    by : (b : Bool) → (if b then read_as bytes (new_card_at bytes) (is_new_card (new_card_at bytes))
        (card_text (new_card_at bytes))
        else read_as bytes (old_card_at bytes) (is_old_card (old_card_at bytes)) (card_text (old_card_at bytes)))
        ≡ Some c
        → IsCardText bytes c
    by true e =
        let p = read_text bytes (new_card_at bytes) c _ _ e in
        subst (IsCardText bytes) p.2 (new_is (new_card_at bytes) refl p.0, p.1)
    by false e =
        let p = read_text bytes (old_card_at bytes) c _ _ e in
        subst (IsCardText bytes) p.2 (old_is (old_card_at bytes) refl refl p.0, p.1)

pub card_is : (bytes : List ℕ) (c : Card) → (request_card_of bytes ≡ Some c → IsCardText bytes c)
    × (IsCardText bytes c → request_card_of bytes ≡ Some c)
card_is bytes c = (read_card bytes c, card_reads bytes c)

-- what is read where a text is, and none where none is, is what the function reads
pub is_read : {A : Type 0} (T : A → Type 0) (f o : Option A) → ((x : A) → (f ≡ Some x → T x) × (T x → f ≡ Some x))
    → (r : Option A) → o ≡ r → IfSome r T → IfNone r ((x : A) → ¬ (T x)) → o ≡ f
is_read T f o agrees (Some x) e found none = e ∙ sym ((agrees x).1 found)
is_read T None o agrees None e found none = e
is_read T (Some x) o agrees None e found none = absurd (none x ((agrees x).0 refl))
