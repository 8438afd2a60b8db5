-- Texts that were written from their ends, field by field.
use Rattle.std.proofs.Common.{◌≡◌, ℕ, Bool, true, false, List, [], ◌∷◌, ◌++◌, ap, sym, ◌∙◌, ◌≤◌, ◌-◌, length, drop}
use Rattle.std.proofs.Common.{take, arith}
use Rattle.std.specs.Prelude.{decimal}
use Rattle.std.proofs.lemmas.List.{length-drop, take_all}
use Rattle.request_cards.specs.CardTexts.{fixed, answer_code, answer_quantity, state_text, entry_fields}
use Rattle.request_cards.specs.Ledgers.{Entry}
use Rattle.request_cards.specs.Requests.{Ask}
use Rattle.request_cards.specs.Texts.{commas, kind_text, message_text, to_fields}
use Rattle.request_cards.proofs.Widths.{join}

-- the letter of an open intent, and that of an answered request
pub open_letter : (pending : Bool) (letter : ℕ) → pending ≡ true → letter ≡ 73 → state_text pending ≡ letter ∷ []
open_letter true letter is e = ap (λ (b : ℕ). b ∷ []) (sym e)
open_letter false letter is e = cc

pub answered_letter : (pending : Bool) (letter : ℕ) → pending ≡ false → letter ≡ 65 → state_text pending ≡ letter ∷ []
answered_letter true letter is e = cc
answered_letter false letter is e = ap (λ (b : ℕ). b ∷ []) (sym e)

-- a letter and a comma
lettered : (text : List ℕ) (letter : ℕ) (whole more : List ℕ) → text ≡ letter ∷ [] → whole ≡ letter ∷ 44 ∷ more
    → whole ≡ text ++ 44 ∷ more
lettered text letter whole more is e = e ∙ ap (λ (xs : List ℕ). xs ++ 44 ∷ more) (sym is)

-- a number, where it is this one
numbered : (width n m : ℕ) (whole more : List ℕ) → n ≡ m → whole ≡ fixed width n ++ more → whole ≡ fixed width m ++ more
numbered width n m whole more is e = e ∙ ap (λ k. fixed width k ++ more) is

-- the fields of an entry
pub fields_written : (pending : Bool) (e own : Entry) (q c h i : ℕ) (letter state : ℕ)
    (rest d1 d2 d3 d4 d5 d6 whole : List ℕ) → own ≡ e
    → h ≡ answer_quantity own.answer → d1 ≡ fixed 9 h ++ rest
    → c ≡ answer_code own.answer → d2 ≡ fixed 1 c ++ 44 ∷ d1
    → q ≡ own.body.quantity → d3 ≡ fixed 9 q ++ 44 ∷ d2
    → i ≡ own.body.item → d4 ≡ fixed 5 i ++ 44 ∷ d3
    → kind_text own.body.kind ≡ letter ∷ [] → d5 ≡ letter ∷ 44 ∷ d4
    → d6 ≡ fixed 9 own.number ++ 44 ∷ d5
    → state_text pending ≡ state ∷ [] → whole ≡ state ∷ 44 ∷ d6
    → whole ≡ commas (entry_fields pending e []) ++ rest
fields_written pending e own q c h i letter state rest d1 d2 d3 d4 d5 d6 whole same eh w1 ec w2 eq w3 ei w4 ek w5 w6 es
    w7 =
    let answer : List ℕ = fixed 9 (answer_quantity own.answer) in
    let code : List ℕ = fixed 1 (answer_code own.answer) ++ 44 ∷ answer in
    let quantity : List ℕ = fixed 9 own.body.quantity ++ 44 ∷ code in
    let item : List ℕ = fixed 5 own.body.item ++ 44 ∷ quantity in
    let kind : List ℕ = kind_text own.body.kind ++ 44 ∷ item in
    let number : List ℕ = fixed 9 own.number ++ 44 ∷ kind in
    join (state_text pending) _ _ number rest (lettered (state_text pending) state whole d6 es w7)
    (join (fixed 9 own.number) _ _ kind rest w6
    (join (kind_text own.body.kind) _ _ item rest (lettered (kind_text own.body.kind) letter d5 d4 ek w5)
    (join (fixed 5 own.body.item) _ _ quantity rest (numbered 5 i own.body.item d4 (44 ∷ d3) ei w4)
    (join (fixed 9 own.body.quantity) _ _ code rest (numbered 9 q own.body.quantity d3 (44 ∷ d2) eq w3)
    (join (fixed 1 (answer_code own.answer)) _ _ answer rest (numbered 1 c (answer_code own.answer) d2 (44 ∷ d1) ec w2)
    (numbered 9 h (answer_quantity own.answer) d1 rest eh w1))))))
    ∙ ap (λ (x : Entry). commas (entry_fields pending x []) ++ rest) same

-- a request
pub request_written : (ask own : Ask) (item till letter : ℕ) (amounts d1 d2 d3 whole : List ℕ) → own ≡ ask
    → amounts ≡ commas (decimal ask.body.quantity ∷ to_fields ask.body.kind ask.body.to)
    → item ≡ own.body.item → d1 ≡ decimal item ++ 44 ∷ amounts
    → kind_text own.body.kind ≡ letter ∷ [] → d2 ≡ letter ∷ 44 ∷ d1
    → d3 ≡ decimal own.number ++ 44 ∷ d2
    → till ≡ own.till → whole ≡ decimal till ++ 44 ∷ d3
    → whole ≡ message_text ask
request_written ask own item till letter amounts d1 d2 d3 whole same ea ei w1 ek w2 w3 et w4 =
    let item_text : d1 ≡ decimal ask.body.item ++ 44 ∷ amounts =
    w1 ∙ ap (λ n. decimal n ++ 44 ∷ amounts) ei ∙ ap (λ (a : Ask). decimal a.body.item ++ 44 ∷ amounts) same in
    let kind : d2 ≡ kind_text ask.body.kind ++ 44 ∷ d1 =
    lettered (kind_text own.body.kind) letter d2 d1 ek w2 ∙ ap (λ (a : Ask). kind_text a.body.kind ++ 44 ∷ d1) same in
    let number : d3 ≡ decimal ask.number ++ 44 ∷ d2 = w3 ∙ ap (λ (a : Ask). decimal a.number ++ 44 ∷ d2) same in
    let first : whole ≡ decimal ask.till ++ 44 ∷ d3 =
    w4 ∙ ap (λ n. decimal n ++ 44 ∷ d3) et ∙ ap (λ (a : Ask). decimal a.till ++ 44 ∷ d3) same in
    first ∙ ap (λ (xs : List ℕ). decimal ask.till ++ 44 ∷ xs) (number
    ∙ ap (λ (xs : List ℕ). decimal ask.number ++ 44 ∷ xs)
    (kind ∙ ap (λ (xs : List ℕ). kind_text ask.body.kind ++ 44 ∷ xs) (item_text
    ∙ ap (λ (xs : List ℕ). decimal ask.body.item ++ 44 ∷ xs) ea)))

-- what stands from a place to the end of the room
pub to_end : (room : List ℕ) (end start : ℕ) → length room ≤ end
    → take (end - start) (drop start room) ≡ drop start room
to_end room end start all = take_all (end - start) (drop start room) (omega (arith, all, length-drop start room))
