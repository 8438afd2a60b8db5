-- An open intent that is completed: its cards are written, and then its answer. All of it is our own.
use Rattle.std.specs.Prelude.{◌≡◌, ◌≤◌, ℕ, List, [], Some, true, false}
use Rattle.std.specs.List.{AllByRecursion}
use Rattle.d64_image.specs.Images.{Image}
use Rattle.request_cards.specs.CardReading.{request_card_of}
use Rattle.request_cards.specs.CardTexts.{Card, card_text}
use Rattle.host_session.specs.shop.Files.{Files, HasFiles, record_at, with_record}
use Rattle.host_session.specs.shop.Shop.{AreLedgerRecords, cards_in, intents, quantities, results_of, state_of}

-- the record of this till holds this card, an open intent, and both files are a ledger's
pub record HasIntent (f : Files) (till : ℕ) (c : Card) : Type 0 where
  pub records : AreLedgerRecords f.stock f.requests
  pub low : 1 ≤ till
  pub high : till ≤ 64
  pub was : List ℕ
  pub here : record_at f.requests till ≡ Some was
  pub reads : request_card_of was ≡ Some c
  pub is_open : c.pending ≡ true

-- STOCK has the cards of the intent's results; everything that the files stand for is as it was
pub record HasResults (f : Files) (c : Card) (img : Image) : Type 0 where
  pub stock : List (List ℕ)
  pub blocks : ℕ
  pub has : HasFiles img (record f { stock = stock; blocks = blocks })
  pub records : AreLedgerRecords stock f.requests
  pub same : state_of stock f.requests ≡ state_of f.stock f.requests
  pub written : AllByRecursion (λ q. quantities stock q.0 ≡ Some q.1) (results_of c.newest)

-- the card of an intent once it is answered: a card of version 1 becomes one of version 2
abbrev pub answered_card : Card → Card
answered_card c = record c { version = 2; pending = false }

-- the intent is answered: no intent is open, and everything that the files stand for is as it was
pub record IsCompleted (f : Files) (till : ℕ) (c : Card) (img : Image) : Type 0 where
  pub stock : List (List ℕ)
  pub blocks : ℕ
  pub has : HasFiles img (record f {
    stock = stock;
    requests = with_record f.requests till (card_text (answered_card c));
    blocks = blocks;
  })
  pub records : AreLedgerRecords stock (with_record f.requests till (card_text (answered_card c)))
  pub same : state_of stock (with_record f.requests till (card_text (answered_card c))) ≡ state_of f.stock f.requests
  pub no_intent : intents (cards_in (with_record f.requests till (card_text (answered_card c)))) ≡ []
