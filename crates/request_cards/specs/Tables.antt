-- A ledger in memory: what its tables hold, what they decide of a request, and how they change. All of it is our own.
use Rattle.std.specs.Prelude.{ℕ, ◌-◌, ◌≤◌, ◌==◌, List, Option, None, Some, IfSome, if◌then◌else◌, option_map}
use Rattle.std.specs.Prelude.{slice_index_or}
use Rattle.std.specs.Option.{option_and_then}
use Rattle.request_cards.specs.declared.answer.Answer.{Answer}
use Rattle.request_cards.specs.declared.decision.Outcome.{Outcome}
use Rattle.request_cards.specs.declared.ledger.Ledger.{Ledger}
use Rattle.request_cards.specs.CardTexts.{Card, ask_of, is_done}
use Rattle.request_cards.specs.Ledgers.{Entry, Start, State, entry_of, nothing}
use Rattle.request_cards.specs.Requests.{Ask, Body}
use Rattle.request_cards.specs.Trade.{Cards, cards_after, put, room_for, trade}

-- what a table holds for item or till n, which count from 1
abbrev pub nth : {X : Type 0} → List (Option X) → ℕ → Option X
nth xs n = if n == 0 then None else slice_index_or xs (n - 1) None

-- a till's last request, if it has a card
abbrev pub newest_in : Option Card → Option Entry
newest_in card = option_map (λ c. c.newest) card

-- the request before a till's last one, if its card has one
abbrev pub second_in : Option Card → Option Entry
second_in card = option_and_then (λ c. c.second) card

-- the state that tables of quantities and of request cards hold
abbrev pub state_in : List (Option ℕ) → List (Option Card) → State
state_in cards requests = record {
  ledger = record { cards = nth cards; kept = λ t. newest_in (nth requests t) };
  prior = λ t. second_in (nth requests t);
}

-- the state that a ledger holds
abbrev pub held_by : Ledger → State
held_by l = state_in l.cards l.requests

-- a ledger with these limits, in which nothing is kept
abbrev pub limits_of : Ledger → Start
limits_of l = record { state = nothing; tills = l.tills; top = l.top }

-- the quantities on hand are some that a card can hold, and no new card is past the table
pub record IsWithin (l : Ledger) : Type 0 where
  pub top : l.top ≤ 10160
  pub few : (item : ℕ) → IfSome (nth l.cards item) (λ q. q ≤ 999999999)

-- the table of quantities has a place for the item
abbrev pub IsInTable : ℕ → Type 0
IsInTable item = (1 ≤ item) × (item ≤ 10160)

-- a till's request and its answer, as they are returned
abbrev pub told_of : ℕ → Entry → Ask × Answer
told_of till e = (ask_of till e, e.answer)

-- the trade rule's outcome for a body over these cards, up to this top: its answer, and the new quantities
abbrev pub traded : Cards → ℕ → Body → Outcome
traded cards top b = trade (cards b.item) (cards b.to) (room_for top b.item) b

-- the till's card with one more request, an open intent if the answer is done
abbrev pub card_with : Option Card → Ask → Answer → Card
card_with card a answer = record {
  version = 2;
  pending = is_done answer;
  newest = entry_of (a, answer);
  second = newest_in card;
}

-- the state with the new quantities of a request, and with this card of its till
abbrev pub renewed : State → Ask → Outcome → Card → State
renewed state a o c = record {
  ledger = record {
    cards = cards_after (cards_after state.ledger.cards a.body.item o.quantity) a.body.to o.to_quantity;
    kept = put state.ledger.kept a.till (Some c.newest);
  };
  prior = put state.prior a.till c.second;
}
