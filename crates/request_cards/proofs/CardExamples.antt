-- Worked examples of cards, computed by the checker. Each is named by what it shows. The texts are our own rules worked
-- by hand.
use Rattle.std.proofs.Common.{◌≡◌, ℕ, true, false, List, [], ◌∷◌, ◌++◌, length, refl, Some, None}
use Rattle.std.specs.Prelude.{codes, map, replicate}
use Rattle.request_cards.specs.declared.answer.Answer.TheVariants as told
use Rattle.request_cards.specs.declared.kind.Kind.TheVariants.{Set, Move}
use Rattle.request_cards.specs.Reading.{kind_of}
use Rattle.request_cards.specs.Ledgers.{Entry}
use Rattle.request_cards.specs.CardTexts.{Card, card_text, first_card, fixed, next_card, old_card, stock_text}
use Rattle.request_cards.specs.CardReading.{request_card_of, stock_card_of}

-- item 15 with 7 on hand
pub stock_card_has_18_bytes : stock_text (record { item = 15; quantity = 7 }) ≡ codes "K,00015,000000007" ++ 13 ∷ []
unfolding fixed
stock_card_has_18_bytes = refl

-- a till's first request, answered
abbrev pub first_entry : Entry
first_entry = record { number = 1; body = record { kind = Set; item = 15; quantity = 7; to = 0 }; answer = told.Done 7 }

pub version_1_card : card_text (old_card false first_entry.body 1 (told.Done 7))
    ≡ codes "A,000000001,S,00015,000000007,0,000000007" ++ 13 ∷ replicate 85 0
unfolding fixed
version_1_card = refl

pub version_2_card : card_text (first_card false first_entry.body 1 (told.Done 7))
    ≡ codes "2A,000000001,S,00015,000000007,0,000000007,00000,000000000" ++ 13 ∷ replicate 68 0
unfolding fixed
version_2_card = refl

-- a set, and then a move that has been decided: the intent, and the card once it is answered
abbrev pub before_move : Card
before_move = first_card false (record { kind = Set; item = 15; quantity = 3; to = 0 }) 2 (told.Done 3)

abbrev pub move_intent : Card
move_intent = next_card before_move true (record { kind = Move; item = 1; quantity = 4; to = 15 }) 3 (told.Moved 6 7)

pub intent_of_a_move : card_text move_intent
    ≡ codes "2I,000000003,M,00001,000000004,0,000000006,00015,000000007" ++ 13 ∷ codes
    "A,000000002,S,00015,000000003,0,000000003,00000,000000000" ++ 13 ∷ replicate 10 0
unfolding fixed
intent_of_a_move = refl

pub answered_move : card_text (record move_intent { pending = false })
    ≡ codes "2A,000000003,M,00001,000000004,0,000000006,00015,000000007" ++ 13 ∷ codes
    "A,000000002,S,00015,000000003,0,000000003,00000,000000000" ++ 13 ∷ replicate 10 0
unfolding fixed
answered_move = refl

pub request_card_has_127_bytes : length (card_text move_intent) ≡ 127
unfolding fixed
request_card_has_127_bytes = refl

-- a record of 127 bytes that begins so, with zeros behind
abbrev pub filled : List ℕ → List ℕ
filled text = text ++ replicate 85 0

-- an open intent of version 1, whose item has its new quantity 5
pub open_intent_is_read : request_card_of (filled (codes "I,000000001,S,00001,000000005,0,000000005" ++ 13 ∷ []))
    ≡ Some (old_card true (record { kind = Set; item = 1; quantity = 5; to = 0 }) 1 (told.Done 5))
unfolding request_card_of kind_of fixed
open_intent_is_read = refl

pub answered_move_is_read : request_card_of (card_text (record move_intent { pending = false }))
    ≡ Some (record move_intent { pending = false })
unfolding request_card_of kind_of fixed
answered_move_is_read = refl

-- an intent of a refusal, a quantity beside an answer that has none, a move of version 1, an unknown answer, an unknown
-- state
pub other_records_are_none : map (λ text. request_card_of (filled (text ++ 13 ∷ [])))
    (codes "I,000000001,S,00015,000000005,1,000000005"
    ∷ codes "A,000000001,R,00015,000000005,3,000000005" ∷ codes "A,000000001,M,00015,000000005,0,000000005"
    ∷ codes "A,000000001,S,00015,000000005,6,000000000" ∷ codes "B,000000001,S,00015,000000005,0,000000005" ∷ [])
    ≡ None ∷ None ∷ None ∷ None ∷ None ∷ []
unfolding request_card_of kind_of fixed
other_records_are_none = refl

-- an empty record is no card
pub empty_records_are_none : (request_card_of (255 ∷ replicate 126 0) ≡ None)
    × (stock_card_of (255 ∷ replicate 17 0) ≡ None)
unfolding request_card_of stock_card_of kind_of fixed
empty_records_are_none = (refl, refl)

pub stock_card_is_read : stock_card_of (codes "K,00004,000000001" ++ 13 ∷ []) ≡ Some (record { item = 4; quantity = 1 })
unfolding stock_card_of fixed
stock_card_is_read = refl
