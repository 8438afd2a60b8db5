-- What has more than 36 bytes is no request, so that of a long line a part tells as much as all of it.
use Rattle.std.proofs.Common.{◌≡◌, ◌<◌, ◌≤◌, ◌+◌, ◌-◌, ℕ, Bool, true, false, List, ◌∷◌, ◌++◌, Option, None, Some}
use Rattle.std.proofs.Common.{length, take, refl, sym, ◌∙◌, ap, ⊎_elim, arith, length-append}
use Rattle.std.specs.Prelude.{◌==◌, if◌then◌else◌, decimal, slice_index}
use Rattle.std.proofs.lemmas.List.{length-take, take_all}
use Rattle.std.proofs.lemmas.Fmt.{length-decimal-le}
use Rattle.std.proofs.lemmas.Bool.{and_parts, cases_lt, eqb-true, leb-true}
use Rattle.request_cards.proofs.Messages.{request_is}
use Rattle.request_cards.proofs.Texts.{five_digits, nine_digits}
use Rattle.request_cards.specs.Reading.{request_of}
use Rattle.request_cards.specs.Requests.{Ask, IsAsk, may_go_to}
use Rattle.request_cards.specs.Texts.{IsMessage, commas, kind_text, message_text, to_fields}
use Rattle.request_cards.specs.declared.kind.Kind.{Kind}
use Rattle.request_cards.specs.declared.kind.Kind.TheVariants.{Receive, Issue, Set, Move}
use Rattle.line_text.specs.scripts.Lines.{without_cr}

two : (x y : List ℕ) (m n : ℕ) → length x ≤ m → length y ≤ n → length (x ++ 44 ∷ y) ≤ m + (n + 1)
two x y m n p q = omega (arith, length-append x (44 ∷ y), p, q)

-- the item that a move goes to is at most 65535
to_high : (k : Kind) (item to : ℕ) → (may_go_to k item to ≡ true) → to ≤ 65535
to_high Move item to is = leb-true to 65535 (and_parts _ _ (and_parts _ _ is).1).0
to_high Receive item to is = let none : to ≡ 0 = eqb-true to 0 is in omega (arith, none)
to_high Issue item to is = let none : to ≡ 0 = eqb-true to 0 is in omega (arith, none)
to_high Set item to is = let none : to ≡ 0 = eqb-true to 0 is in omega (arith, none)

last : (k : Kind) (quantity to : ℕ) → quantity ≤ 999999999 → to ≤ 65535
    → length (commas (decimal quantity ∷ to_fields k to)) ≤ 15
last Move quantity to q t = two (decimal quantity) (decimal to) 9 5 (nine_digits quantity q) (five_digits to t)
last Receive quantity to q t = omega (arith, nine_digits quantity q)
last Issue quantity to q t = omega (arith, nine_digits quantity q)
last Set quantity to q t = omega (arith, nine_digits quantity q)

letter : (k : Kind) → length (kind_text k) ≤ 1
letter Receive = omega arith
letter Issue = omega arith
letter Set = omega arith
letter Move = omega arith

pub message_short : (a : Ask) → IsAsk a → length (message_text a) ≤ 36
message_short a is =
    let b = a.body in
    let tail = last b.kind b.quantity b.to is.body.quantity_high (to_high b.kind b.item b.to is.body.to) in
    two (decimal a.till) _ 2 33 (length-decimal-le 2 a.till (omega arith) (omega (arith, is.till_high)) (omega arith))
    (two (decimal a.number) _ 9 23 (nine_digits a.number is.number_high)
    (two (kind_text b.kind) _ 1 21 (letter b.kind)
    (two (decimal b.item) _ 5 15 (five_digits b.item is.body.item_high) tail)))

pub long_none : (bytes : List ℕ) → 36 < length bytes → request_of bytes ≡ None
long_none bytes long = pick (request_of bytes) refl
  where
    pick : (o : Option Ask) → request_of bytes ≡ o → o ≡ None
    pick None e = refl
    pick (Some a) e = let is : IsMessage bytes a = request_is bytes a e in
        absurd (omega (arith, long, ap length is.1, message_short a is.0))

without_cr_long : (line : List ℕ) → length line ≤ length (without_cr line) + 1
without_cr_long line = pick (slice_index line (length line - 1) == 13)
  where
    pick : (t : Bool) → length line ≤ length (if t then take (length line - 1) line else line) + 1
    pick true = omega (arith, length-take (length line - 1) line)
    pick false = omega arith

-- what was kept of a line is the same message, or none as that is
pub same_message : (raw kept : List ℕ) → kept ≡ take 40 raw → request_of (without_cr kept) ≡ request_of (without_cr raw)
same_message raw kept is = ap (λ bs. request_of (without_cr bs)) is ∙ ⊎_elim
    (λ (long : 40 < length raw).
    let cut : 36 < length (without_cr (take 40 raw)) =
    omega (arith, without_cr_long (take 40 raw), length-take 40 raw, long) in
    let all : 36 < length (without_cr raw) = omega (arith, without_cr_long raw, long) in
    long_none (without_cr (take 40 raw)) cut ∙ sym (long_none (without_cr raw) all))
    (λ (short : length raw ≤ 40). ap (λ bs. request_of (without_cr bs)) (take_all 40 raw short))
    (cases_lt 40 (length raw))
