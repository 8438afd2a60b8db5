-- What is shown of a shop, byte by byte. All of it is our own.
use Rattle.std.specs.Prelude.{ℕ, zero, suc, List, [], ◌++◌, Option, None, Some, codes, decimal, option_map}
use Rattle.request_cards.specs.declared.answer.Answer.{Answer}
use Rattle.request_cards.specs.Tables.{told_of}
use Rattle.request_cards.specs.Ledgers.{State}
use Rattle.request_cards.specs.Requests.{Ask}
use Rattle.request_cards.specs.Texts.{answer_text, message_text}

-- the lines of 1, 2 and so on up to n
unfoldable pub up_to : ℕ → (ℕ → List ℕ) → List ℕ
up_to zero line = []
up_to (suc n) line = up_to n line ++ line (suc n)

-- how far new cards may go: TOP 9256
abbrev pub top_line : ℕ → List ℕ
top_line top = codes "TOP " ++ (decimal top ++ codes "\n")

-- an item's card: CARD 42,100
abbrev pub card_line : ℕ → ℕ → List ℕ
card_line item quantity = codes "CARD " ++ (decimal item ++ (codes "," ++ (decimal quantity ++ codes "\n")))

-- an item without a card has no line
abbrev pub card_part : ℕ → Option ℕ → List ℕ
card_part item None = []
card_part item (Some quantity) = card_line item quantity

-- after a word, a request as its till sent it, and its answer: TILL 1,4,I,42,20,DONE,100
abbrev pub told_line : List ℕ → Ask → Answer → List ℕ
told_line word a answer = word ++ (message_text a ++ (codes "," ++ (answer_text answer ++ codes "\n")))

-- a request that a till hasn't made has no line
abbrev pub told_part : List ℕ → Option (Ask × Answer) → List ℕ
told_part word None = []
told_part word (Some told) = told_line word told.0 told.1

-- a till's last request, and the one before it
abbrev pub till_part : Option (Ask × Answer) → Option (Ask × Answer) → List ℕ
till_part kept prior = told_part (codes "TILL ") kept ++ told_part (codes "PRIOR ") prior

-- the cards of the first items, in their order
abbrev pub cards_to : State → ℕ → List ℕ
cards_to state n = up_to n (λ item. card_part item (state.ledger.cards item))

-- the cards of all items: 10160 is the last record that a file can have
abbrev pub card_lines : State → List ℕ
card_lines state = cards_to state 10160

-- the requests in the order of the tills
abbrev pub till_lines : State → List ℕ
till_lines state =
    up_to 64 (λ till. till_part (option_map (told_of till) (state.ledger.kept till))
    (option_map (told_of till) (state.prior till)))

-- all that is shown of a shop: how far new cards may go, its cards, and the last two requests of each till
unfoldable pub shown_shop : ℕ → State → List ℕ
shown_shop top state = top_line top ++ (card_lines state ++ till_lines state)
