-- Worked examples of what records stand for, computed by the checker. Each is named by what it shows; the texts are
-- worked by hand from the rules of cards.
use Rattle.std.proofs.Common.{◌≡◌, ℕ, true, false, List, [], ◌∷◌, ◌++◌, refl, Some, None, replicate, ⊎_elim, ap, arith}
use Rattle.std.specs.Prelude.{codes, slice_index}
use Rattle.std.proofs.lemmas.Bool.{false≢true}
use Rattle.disk_layout.specs.Records.{empty_record}
use Rattle.request_cards.specs.declared.answer.Answer.TheVariants as told
use Rattle.request_cards.specs.declared.kind.Kind.TheVariants.{Move, Set}
use Rattle.request_cards.specs.CardReading.{request_card_of, stock_card_of}
use Rattle.request_cards.specs.CardTexts.{fixed}
use Rattle.request_cards.specs.Ledgers.{Entry}
use Rattle.request_cards.specs.Reading.{kind_of}
use Rattle.host_session.specs.session.Opening.{LacksRecord}
use Rattle.host_session.specs.shop.Blank.{blank_shop}
use Rattle.host_session.specs.shop.Shop.{IsStockRecord, any_old, cards_in, intents, quantities, results, state_of}

-- 18 bytes that are no card: a card of which only a part was written
abbrev pub torn : List ℕ
torn = codes "K,00015,0" ++ replicate 9 0

-- STOCK with 15 records, of which the first and the last hold these
abbrev pub fifteen : List ℕ → List ℕ → List (List ℕ)
fifteen first last = first ∷ replicate 13 (empty_record 18) ++ last ∷ []

-- a move of 4 from item 1 to item 15, decided to leave 6 and 7, over the set of item 15 to 3 before it; open, and
-- answered
abbrev pub move_bytes : List ℕ → List ℕ
move_bytes state = codes "2" ++ state ++ codes ",000000003,M,00001,000000004,0,000000006,00015,000000007" ++ 13
    ∷ codes "A,000000002,S,00015,000000003,0,000000003,00000,000000000" ++ 13 ∷ replicate 10 0

abbrev pub open_move : List (List ℕ)
open_move = move_bytes (codes "I") ∷ []

abbrev pub answered_move : List (List ℕ)
answered_move = move_bytes (codes "A") ∷ []

abbrev pub move_entry : Entry
move_entry = record {
  number = 3;
  body = record { kind = Move; item = 1; quantity = 4; to = 15 };
  answer =
      told.Moved 6 7;
}

abbrev pub set_entry : Entry
set_entry = record { number = 2; body = record { kind = Set; item = 15; quantity = 3; to = 0 }; answer = told.Done 3 }

-- an open move counts, whatever bytes the records of its two items hold
pub open_move_lies_over_torn_cards : ((state_of (fifteen torn torn) open_move).ledger.cards 1 ≡ Some 6)
    × ((state_of (fifteen torn torn) open_move).ledger.cards 15 ≡ Some 7)
unfolding request_card_of kind_of fixed
open_move_lies_over_torn_cards = (refl, refl)

-- and still counts so once one of the cards was written
pub half_a_move_is_the_same : (state_of (fifteen (codes "K,00001,000000006" ++ 13 ∷ []) torn) open_move).ledger.cards
    15 ≡ Some 7
unfolding request_card_of kind_of fixed
half_a_move_is_the_same = refl

-- its till's last request is the move, the one before it the set
pub both_requests_are_kept : ((state_of [] open_move).ledger.kept 1 ≡ Some move_entry)
    × ((state_of [] open_move).prior 1 ≡ Some set_entry)
unfolding request_card_of kind_of fixed
both_requests_are_kept = (refl, refl)

-- once it is answered the cards themselves count
pub answered_move_leaves_the_cards : intents (cards_in answered_move) ≡ []
unfolding request_card_of kind_of fixed
answered_move_leaves_the_cards = refl

-- so a torn one is a bad card then
pub torn_card_is_bad : ¬ (IsStockRecord 15 torn)
unfolding stock_card_of fixed
torn_card_is_bad h = ⊎_elim (λ e. absurd (omega (arith, ap (λ (bytes : List ℕ). slice_index bytes 0) e)))
    (λ s. false≢true s) h

-- the card of item 4 in record 3 is no card of item 3, and none of item 4
pub card_in_a_wrong_record : (quantities (empty_record 18 ∷ empty_record 18 ∷ (codes "K,00004,000000001" ++ 13 ∷ []) ∷
    []) 3 ≡ None)
    × (quantities (empty_record 18 ∷ empty_record 18 ∷ (codes "K,00004,000000001" ++ 13 ∷ []) ∷ []) 4 ≡ None)
unfolding stock_card_of fixed
card_in_a_wrong_record = (refl, refl)

-- an open intent of version 1, of each of its kinds: its item has the quantity of its answer
abbrev pub old_intent : List ℕ → List (List ℕ)
old_intent kind = (codes "I,000000001," ++ kind ++ codes ",00001,000000005,0,000000009" ++ 13 ∷ replicate 85 0) ∷ []

pub open_intents_give_quantities : (results (intents (cards_in (old_intent (codes "R")))) ≡ (1, 9) ∷ [])
    × ((results (intents (cards_in (old_intent (codes "I")))) ≡ (1, 9) ∷ [])
    × (results (intents (cards_in (old_intent (codes "S")))) ≡ (1, 9) ∷ []))
unfolding request_card_of kind_of fixed
open_intents_give_quantities = (refl, (refl, refl))

-- an answered card of version 1 is to be rewritten, and has no request before its last
pub version_1_is_old : (any_old
    (cards_in ((codes "A,000000001,S,00015,000000007,0,000000007" ++ 13 ∷ replicate 85 0) ∷ [])) ≡ true)
    × ((state_of [] ((codes "A,000000001,S,00015,000000007,0,000000007" ++ 13 ∷ replicate 85 0) ∷ [])).prior 1 ≡ None)
unfolding request_card_of kind_of fixed
version_1_is_old = (refl, refl)

pub version_2_is_not : any_old (cards_in answered_move) ≡ false
unfolding request_card_of kind_of fixed
version_2_is_not = refl

-- a record of REQUESTS past 64 counts nowhere
pub record_65_is_no_till : cards_in (replicate 64 (empty_record 127) ++ open_move) ≡ cards_in
    (replicate 64 (empty_record 127))
record_65_is_no_till = refl

-- an open intent for an item whose record isn't there
pub intent_without_a_record : LacksRecord (empty_record 18 ∷ []) (request_card_of (move_bytes (codes "I")))
unfolding request_card_of kind_of fixed
intent_without_a_record = (15, (1, omega arith, refl), refl)

-- an odd number of tills gives one more; beside the records of these STOCK has room up to item 9242
pub blank_shop_of_three_tills : ((blank_shop (codes "SHOP") (codes "01") 3).tills ≡ 4)
    × ((blank_shop (codes "SHOP") (codes "01") 3).top ≡ 9242)
blank_shop_of_three_tills = (refl, refl)
