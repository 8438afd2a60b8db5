-- What the trade rule answers has its place on a card.
use Rattle.std.proofs.Common.{ℕ, ◌≤◌, ◌+◌, Option, Some, None, refl, inl, inr, arith}
use Rattle.std.specs.Prelude.{IfSome, IsTrue, nat_lt}
use Rattle.std.proofs.lemmas.Bool.{cases_Bool, ltb-false}
use Rattle.request_cards.specs.declared.answer.Answer.{Answer}
use Rattle.request_cards.specs.declared.decision.Room.{Room}
use Rattle.request_cards.specs.declared.decision.Room.TheVariants as rooms
use Rattle.request_cards.specs.declared.kind.Kind.{Kind}
use Rattle.request_cards.specs.declared.kind.Kind.TheVariants.{Receive, Issue, Set, Move}
use Rattle.request_cards.specs.Requests.{Ask, IsAsk}
use Rattle.request_cards.specs.Trade.{trade, trade_row}
use Rattle.request_cards.specs.Ledgers.{entry_of}
use Rattle.request_cards.specs.CardTexts.{IsEntry, answer_quantity, answer_to_quantity, goes_with}

-- the answer may stand beside a request of this kind
abbrev Fits : Kind → Answer → Type 0
Fits k a = IsTrue (goes_with k a) × (answer_quantity a ≤ 999999999) × (answer_to_quantity a ≤ 999999999)

-- a quantity on hand is in its range
abbrev IsOnHand : Option ℕ → Type 0
IsOnHand o = IfSome o (λ q. q ≤ 999999999)

row_fits : (k : Kind) (q : ℕ) (on_hand to_hand : Option ℕ) (room : Room) → q ≤ 999999999 → IsOnHand on_hand
    → IsOnHand to_hand
    → Fits k (trade_row on_hand to_hand room k q).answer
row_fits Set q (Some on) to_hand room h i j = (refl, h, omega arith)
row_fits Set q None to_hand rooms.Fits h i j = (refl, h, omega arith)
row_fits Set q None to_hand rooms.Full h i j = (refl, omega arith, omega arith)
row_fits Set q None to_hand rooms.TooLarge h i j = (refl, omega arith, omega arith)
row_fits Receive q None to_hand room h i j = (refl, omega arith, omega arith)
row_fits Receive q (Some on) to_hand room h i j = elim (cases_Bool (nat_lt 999999999 (on + q))) [
  | inl over ↦ rw over (refl, i, omega arith)
  | inr fits ↦ rw fits (refl, ltb-false 999999999 (on + q) fits, omega arith)
]
row_fits Issue q None to_hand room h i j = (refl, omega arith, omega arith)
row_fits Issue q (Some on) to_hand room h i j = elim (cases_Bool (nat_lt on q)) [
  | inl short ↦ rw short (refl, i, omega arith)
  | inr fits ↦ rw fits (refl, omega (arith, i), omega arith)
]
row_fits Move q None to_hand room h i j = (refl, omega arith, omega arith)
row_fits Move q (Some on) None room h i j = (refl, omega arith, omega arith)
row_fits Move q (Some on) (Some there) room h i j = elim (cases_Bool (nat_lt on q)) [
  | inl short ↦ rw short (refl, i, omega arith)
  | inr enough ↦ elim (cases_Bool (nat_lt 999999999 (there + q))) [
    | inl over ↦ rw (enough, over) (refl, j, omega arith)
    | inr fits ↦ rw (enough, fits) (refl, omega (arith, i), ltb-false 999999999 (there + q) fits)
  ]
]

-- a request with its answer is an entry of a card
pub answer_is_kept : (a : Ask) (on_hand to_hand : Option ℕ) (room : Room) → IsAsk a → IsOnHand on_hand
    → IsOnHand to_hand
    → IsEntry (entry_of (a, (trade on_hand to_hand room a.body).answer))
answer_is_kept a on_hand to_hand room is i j =
    let fits = row_fits a.body.kind a.body.quantity on_hand to_hand room is.body.quantity_high i j in
    record {
      number_low = is.number_low;
      number_high = is.number_high;
      body = is.body;
      fits = fits.0;
      quantity_high = fits.1;
      to_quantity_high = fits.2;
    }
