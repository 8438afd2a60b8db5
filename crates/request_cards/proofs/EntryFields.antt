-- The fields that an entry has in both versions, and where they stand in a card.
use Rattle.std.proofs.Common.{◌≡◌, ℕ, ◌+◌, ◌^◌, ◌<◌, ◌≤◌, Bool, true, false, List, [], ◌∷◌, ◌++◌, length, drop, get_or, refl}
use Rattle.std.proofs.Common.{ap, ap₂, sym, subst, ◌∙◌, arith, None, Some}
use Rattle.std.specs.Prelude.{Option, IfNone, IfSome}
use Rattle.std.proofs.lemmas.List.{get_or-drop}
use Rattle.request_cards.specs.declared.answer.Answer.{Answer}
use Rattle.request_cards.specs.declared.answer.Answer.TheVariants as answers
use Rattle.request_cards.specs.declared.kind.Kind.{Kind}
use Rattle.request_cards.specs.declared.kind.Kind.TheVariants.{Receive, Issue, Set, Move}
use Rattle.request_cards.specs.Requests.{Body}
use Rattle.request_cards.specs.Texts.{commas, kind_text}
use Rattle.request_cards.specs.Reading.{kind_of}
use Rattle.request_cards.specs.Ledgers.{Entry}
use Rattle.request_cards.specs.CardTexts.{IsEntry, fixed, answer_code, answer_quantity, answer_to_quantity, state_text}
use Rattle.request_cards.specs.CardTexts.{entry_fields}
use Rattle.request_cards.proofs.Messages.{kind_of_spells, kind_of_text}
use Rattle.request_cards.proofs.Widths.{byte_at, byte_of, field_at, fixed_length, join, piece_at, same_number}

-- the fields of an entry stand in their places, and what follows them
pub record IsCut (bytes : List ℕ) (at : ℕ) (pending : Bool) (e : Entry) (rest : List ℕ) : Type 0 where
  pub state : drop at bytes ≡ state_text pending ++ 44 ∷ drop (at + 2) bytes
  pub number : drop (at + 2) bytes ≡ fixed 9 e.number ++ 44 ∷ drop (at + 12) bytes
  pub kind : drop (at + 12) bytes ≡ kind_text e.body.kind ++ 44 ∷ drop (at + 14) bytes
  pub item : drop (at + 14) bytes ≡ fixed 5 e.body.item ++ 44 ∷ drop (at + 20) bytes
  pub quantity : drop (at + 20) bytes ≡ fixed 9 e.body.quantity ++ 44 ∷ drop (at + 30) bytes
  pub code : drop (at + 30) bytes ≡ fixed 1 (answer_code e.answer) ++ 44 ∷ drop (at + 32) bytes
  pub answer : drop (at + 32) bytes ≡ fixed 9 (answer_quantity e.answer) ++ drop (at + 41) bytes
  pub after : drop (at + 41) bytes ≡ rest

-- a state and a kind are one letter
pub state_length : (p : Bool) → length (state_text p) ≡ 1
state_length true = refl
state_length false = refl

pub kind_length : (k : Kind) → length (kind_text k) ≡ 1
kind_length Receive = refl
kind_length Issue = refl
kind_length Set = refl
kind_length Move = refl

letter_first : (k : Kind) (rest : List ℕ) (d : ℕ) → kind_of (get_or (kind_text k ++ rest) 0 d ∷ []) ≡ Some k
letter_first Receive rest d = kind_of_text Receive
letter_first Issue rest d = kind_of_text Issue
letter_first Set rest d = kind_of_text Set
letter_first Move rest d = kind_of_text Move

-- a kind that stands at this place
pub kind_stands : (bytes : List ℕ) (k : ℕ) (kind : Kind) (rest : List ℕ) (d : ℕ) → drop k bytes ≡ kind_text kind ++ rest
    → kind_of (get_or bytes k d ∷ []) ≡ Some kind
kind_stands bytes k kind rest d e =
    ap (λ x. kind_of (x ∷ []))
    (ap (λ i. get_or bytes i d) (let s : k ≡ k + 0 = omega arith in s)
    ∙ sym (get_or-drop k bytes 0 d) ∙ ap (λ (xs : List ℕ). get_or xs 0 d) e)
    ∙ letter_first kind rest d

-- a comma behind a text of one letter, and a letter with a comma behind it
pub comma_behind : (text bytes rest : List ℕ) (k : ℕ) → length text ≡ 1 → drop k bytes ≡ text ++ 44 ∷ rest
    → get_or bytes (k + 1) 0 ≡ 44
comma_behind text bytes rest k one e =
    byte_of bytes rest (k + 1) 44 (piece_at text 1 k (k + 1) bytes (44 ∷ rest) one e refl).1

pub letter_here : (bytes : List ℕ) (k x : ℕ) → length bytes ≡ 127 → k + 2 ≤ 127 → get_or bytes k 0 ≡ x
    → get_or bytes (k + 1) 0 ≡ 44 → drop k bytes ≡ x ∷ 44 ∷ drop (k + 2) bytes
letter_here bytes k x long fits letter comma =
    byte_at bytes k x (omega (arith, long, fits)) letter
    ∙ ap (λ t. x ∷ t) (byte_at bytes (k + 1) 44 (omega (arith, long, fits)) comma
    ∙ ap (λ i. 44 ∷ drop i bytes) (let s : k + 1 + 1 ≡ k + 2 = omega arith in s))

-- the kind of a letter with a comma behind it, and none
pub kind_here : (o : Option Kind) (bytes : List ℕ) (k : ℕ) → length bytes ≡ 127 → k + 2 ≤ 127
    → get_or bytes (k + 1) 0 ≡ 44 → o ≡ kind_of (get_or bytes k 0 ∷ [])
    → IfSome o (λ kind. drop k bytes ≡ kind_text kind ++ 44 ∷ drop (k + 2) bytes)
kind_here (Some kind) bytes k long fits comma e =
    letter_here bytes k (get_or bytes k 0) long fits refl comma
    ∙ ap (λ text. text ++ 44 ∷ drop (k + 2) bytes) (kind_of_spells (get_or bytes k 0 ∷ []) kind (sym e))
kind_here None bytes k long fits comma e = tt

pub kind_refused_here : (o : Option Kind) (bytes : List ℕ) (k : ℕ) → o ≡ kind_of (get_or bytes k 0 ∷ [])
    → IfNone o ((kind : Kind) (rest : List ℕ) → ¬ (drop k bytes ≡ kind_text kind ++ 44 ∷ rest))
kind_refused_here (Some kind) bytes k e = tt
kind_refused_here None bytes k e = λ kind rest text.
    let some : None ≡ Some kind = e ∙ kind_stands bytes k kind (44 ∷ rest) 0 text in cc

-- from the text to the fields in their places, and back
pub fields_cut : (bytes : List ℕ) (at : ℕ) (pending : Bool) (e : Entry) (rest : List ℕ)
    → drop at bytes ≡ commas (entry_fields pending e []) ++ rest → IsCut bytes at pending e rest
fields_cut bytes at pending e rest text =
    let answer : List ℕ = fixed 9 (answer_quantity e.answer) in
    let code : List ℕ = fixed 1 (answer_code e.answer) ++ 44 ∷ answer in
    let quantity : List ℕ = fixed 9 e.body.quantity ++ 44 ∷ code in
    let item : List ℕ = fixed 5 e.body.item ++ 44 ∷ quantity in
    let kind : List ℕ = kind_text e.body.kind ++ 44 ∷ item in
    let number : List ℕ = fixed 9 e.number ++ 44 ∷ kind in
    let at2 = field_at (state_text pending) 1 at (at + 2) bytes number rest (state_length pending) text (omega arith) in
    let at12 = field_at (fixed 9 e.number) 9 (at + 2) (at + 12) bytes kind rest (fixed_length 9 e.number) at2.1
    (omega arith) in
    let at14 = field_at (kind_text e.body.kind) 1 (at + 12) (at + 14) bytes item rest (kind_length e.body.kind) at12.1
    (omega arith) in
    let at20 = field_at (fixed 5 e.body.item) 5 (at + 14) (at + 20) bytes quantity rest (fixed_length 5 e.body.item)
    at14.1 (omega arith) in
    let at30 = field_at (fixed 9 e.body.quantity) 9 (at + 20) (at + 30) bytes code rest (fixed_length 9 e.body.quantity)
    at20.1 (omega arith) in
    let at32 = field_at (fixed 1 (answer_code e.answer)) 1 (at + 30) (at + 32) bytes answer rest
    (fixed_length 1 (answer_code e.answer)) at30.1 (omega arith) in
    let at41 = piece_at answer 9 (at + 32) (at + 41) bytes rest (fixed_length 9 (answer_quantity e.answer)) at32.1
    (omega arith) in
    record {
      state = at2.0;
      number = at12.0;
      kind = at14.0;
      item = at20.0;
      quantity = at30.0;
      code = at32.0;
      answer = at41.0;
      after = at41.1;
    }

pub fields_join : (bytes : List ℕ) (at : ℕ) (pending : Bool) (e : Entry) (rest : List ℕ) → IsCut bytes at pending e rest
    → drop at bytes ≡ commas (entry_fields pending e []) ++ rest
fields_join bytes at pending e rest cut =
    let answer : List ℕ = fixed 9 (answer_quantity e.answer) in
    let code : List ℕ = fixed 1 (answer_code e.answer) ++ 44 ∷ answer in
    let quantity : List ℕ = fixed 9 e.body.quantity ++ 44 ∷ code in
    let item : List ℕ = fixed 5 e.body.item ++ 44 ∷ quantity in
    let kind : List ℕ = kind_text e.body.kind ++ 44 ∷ item in
    let number : List ℕ = fixed 9 e.number ++ 44 ∷ kind in
    join (state_text pending) _ _ number rest cut.state
    (join (fixed 9 e.number) _ _ kind rest cut.number
    (join (kind_text e.body.kind) _ _ item rest cut.kind
    (join (fixed 5 e.body.item) _ _ quantity rest cut.item
    (join (fixed 9 e.body.quantity) _ _ code rest cut.quantity
    (join (fixed 1 (answer_code e.answer)) _ _ answer rest cut.code
    (cut.answer ∙ ap (λ t. answer ++ t) cut.after))))))

-- the same of what was read, field by field
pub record HasFields (bytes : List ℕ) (at : ℕ) (p : Bool) (n : ℕ) (k : Kind) (i q c h : ℕ) : Type 0 where
  pub state : drop at bytes ≡ state_text p ++ 44 ∷ drop (at + 2) bytes
  pub number : (n < 10 ^ 9) × (drop (at + 2) bytes ≡ fixed 9 n ++ 44 ∷ drop (at + 2 + 9 + 1) bytes)
  pub kind : drop (at + 12) bytes ≡ kind_text k ++ 44 ∷ drop (at + 12 + 2) bytes
  pub item : (i < 10 ^ 5) × (drop (at + 14) bytes ≡ fixed 5 i ++ 44 ∷ drop (at + 14 + 5 + 1) bytes)
  pub quantity : (q < 10 ^ 9) × (drop (at + 20) bytes ≡ fixed 9 q ++ 44 ∷ drop (at + 20 + 9 + 1) bytes)
  pub code : (c < 10 ^ 1) × (drop (at + 30) bytes ≡ fixed 1 c ++ 44 ∷ drop (at + 30 + 1 + 1) bytes)
  pub answer : (h < 10 ^ 9) × (drop (at + 32) bytes ≡ fixed 9 h ++ drop (at + 32 + 9) bytes)

-- a place said in another way
pub next : (bytes text : List ℕ) (x y k m : ℕ) → text ≡ fixed x y ++ 44 ∷ drop k bytes → k ≡ m
    → text ≡ fixed x y ++ 44 ∷ drop m bytes
next bytes text x y k m e s = e ∙ ap (λ i. fixed x y ++ 44 ∷ drop i bytes) s

-- what was read is the fields of the entry that is made of it
pub fields_found : (bytes : List ℕ) (at to g : ℕ) (p : Bool) (n : ℕ) (k : Kind) (i q c h : ℕ) (b : Body) (a : Answer)
    (e : Entry)
    → HasFields bytes at p n k i q c h → ◌≡◌ {A = Body} b (record { kind = k; item = i; quantity = q; to = to })
    → (answer_code a ≡ c) × (answer_quantity a ≡ h) × (answer_to_quantity a ≡ g)
    → ◌≡◌ {A = Entry} e (record { number = n; body = b; answer = a })
    → (drop at bytes ≡ commas (entry_fields p e []) ++ drop (at + 41) bytes) × (e.body.to ≡ to)
    × (answer_to_quantity e.answer ≡ g)
fields_found bytes at to g p n k i q c h b a e has eb ea ee =
    let made : Entry = record { number = n; body = record { kind = k; item = i; quantity = q; to = to }; answer = a } in
    let same : e ≡ made = ee ∙ (λ j. record { number = n; body = eb j; answer = a }) in
    let text : drop at bytes ≡ commas (entry_fields p made []) ++ drop (at + 41) bytes =
    fields_join bytes at p made (drop (at + 41) bytes) (record {
      state = has.state;
      number = next bytes _ 9 n _ (at + 12) has.number.1 (omega arith);
      kind = has.kind ∙ ap (λ i. kind_text k ++ 44 ∷ drop i bytes) (let s : at + 12 + 2 ≡ at + 14 = omega arith in s);
      item = next bytes _ 5 i _ (at + 20) has.item.1 (omega arith);
      quantity = next bytes _ 9 q _ (at + 30) has.quantity.1 (omega arith);
      code = next bytes _ 1 c _ (at + 32) has.code.1 (omega arith)
          ∙ ap (λ x. fixed 1 x ++ 44 ∷ drop (at + 32) bytes) (sym ea.0);
      answer = has.answer.1 ∙ ap₂ (λ x i. fixed 9 x ++ drop i bytes) (sym ea.1) (let s : at + 32 + 9 ≡ at + 41 =
          omega arith in s);
      after = refl;
    }) in
    subst (λ (x : Entry). (drop at bytes ≡ commas (entry_fields p x []) ++ drop (at + 41) bytes) × (x.body.to ≡ to)
    × (answer_to_quantity x.answer ≡ g))
    (sym same) (text, refl, ea.2)

-- where an entry stands, its parts are what was read
pub record AreFields (n : ℕ) (k : Kind) (i q c h : ℕ) (e : Entry) : Type 0 where
  pub number : n ≡ e.number
  pub kind : k ≡ e.body.kind
  pub item : i ≡ e.body.item
  pub quantity : q ≡ e.body.quantity
  pub code : c ≡ answer_code e.answer
  pub answer : h ≡ answer_quantity e.answer

-- the digit of an answer is one digit
pub code_low : (a : Answer) → answer_code a < 10 ^ 1
code_low (answers.Done h) = omega arith
code_low (answers.Moved h g) = omega arith
code_low (answers.Short h) = omega arith
code_low (answers.Over h) = omega arith
code_low answers.NoCard = omega arith
code_low answers.DiskFull = omega arith
code_low answers.TooLarge = omega arith

-- a body, and an entry, part by part
pub body_same : (b : Body) (k : Kind) (i q t : ℕ) → k ≡ b.kind → i ≡ b.item → q ≡ b.quantity → t ≡ b.to
    → ◌≡◌ {A = Body} (record { kind = k; item = i; quantity = q; to = t }) b
body_same b k i q t hk hi hq ht j = record { kind = hk j; item = hi j; quantity = hq j; to = ht j }

pub entry_same : (e : Entry) (n : ℕ) (b : Body) (a : Answer) → n ≡ e.number → b ≡ e.body → a ≡ e.answer
    → ◌≡◌ {A = Entry} (record { number = n; body = b; answer = a }) e
entry_same e n b a hn hb ha j = record { number = hn j; body = hb j; answer = ha j }

-- an answer that was found is this one
pub no_answer : (a : Answer) → None ≡ Some a → ⊥
no_answer a e = cc

pub one_answer : (b a : Answer) → Some b ≡ Some a → b ≡ a
one_answer b a e = cc

-- one text is of one kind
kind_one : (k kind : Kind) (text more rest : List ℕ) → text ≡ kind_text k ++ more → text ≡ kind_text kind ++ rest
    → k ≡ kind
kind_one k kind text more rest e f =
    let one : Some k ≡ Some kind = sym (kind_stands text 0 k more 0 e) ∙ kind_stands text 0 kind rest 0 f in cc

-- what was read where an entry stands is its parts
pub fields_are : (bytes : List ℕ) (at : ℕ) (p : Bool) (n : ℕ) (k : Kind) (i q c h : ℕ) (pending : Bool) (e : Entry)
    (rest : List ℕ)
    → HasFields bytes at p n k i q c h → IsEntry e → drop at bytes ≡ commas (entry_fields pending e []) ++ rest
    → AreFields n k i q c h e
fields_are bytes at p n k i q c h pending e rest has is text =
    let cut = fields_cut bytes at pending e rest text in record {
      number = same_number 9 n e.number _ _ _ has.number.0 (omega (arith, is.number_high)) has.number.1 cut.number;
      kind = kind_one k e.body.kind _ _ _ has.kind cut.kind;
      item = same_number 5 i e.body.item _ _ _ has.item.0 (omega (arith, is.body.item_high)) has.item.1 cut.item;
      quantity = same_number 9 q e.body.quantity _ _ _ has.quantity.0 (omega (arith, is.body.quantity_high))
          has.quantity.1 cut.quantity;
      code = same_number 1 c _ _ _ _ has.code.0 (code_low e.answer) has.code.1 cut.code;
      answer = same_number 9 h _ _ _ _ has.answer.0 (omega (arith, is.quantity_high)) has.answer.1 cut.answer;
    }
