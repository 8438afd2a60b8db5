-- What opening reads and checks before it writes, record by record. All of it is our own.
use Rattle.std.specs.Prelude.{◌≡◌, ◌≤◌, ◌<◌, ◌⊎◌, ℕ, true, ◌++◌, List, [], ◌∷◌, Option, None, Some, Contains, IsSome}
use Rattle.std.specs.Prelude.{IfErr, IfOk, Result, length, replicate}
use Rattle.d64_image.specs.History.{History, OnlyReads}
use Rattle.rel_records.specs.declared.reading.record_order.LastBlock.{LastBlock}
use Rattle.rel_records.specs.declared.rel_file.RelFile.{RelFile}
use Rattle.rel_records.specs.reading.Kept.{IsKept}
use Rattle.request_cards.specs.CardReading.{request_card_of}
use Rattle.request_cards.specs.CardTexts.{Card}
use Rattle.request_cards.specs.Tables.{nth}
use Rattle.request_cards.specs.Trade.{Cards}
use Rattle.host_session.specs.declared.faults.OpenFault.{OpenFault}
use Rattle.host_session.specs.declared.shop.intents.Intent.{Intent}
use Rattle.host_session.specs.declared.shop.intents.NewQuantities.{NewQuantities}
use Rattle.host_session.specs.declared.shop.judgment.LoadedShop.{LoadedShop}
use Rattle.host_session.specs.session.Opening.{HasNoBadTill, LacksRecord, TellsJudging, open_intents}
use Rattle.host_session.specs.shop.Files.{Files, record_at}
use Rattle.host_session.specs.shop.Shop.{AreLedgerRecords, IsIntended, IsRequestRecord, IsStockRecord, card_at}
use Rattle.host_session.specs.shop.Shop.{cards_in, intents, items, results, results_of, state_of}

-- one new quantity or none, as a list
abbrev pub pair_in : Option (ℕ × ℕ) → List (ℕ × ℕ)
pair_in None = []
pair_in (Some q) = q ∷ []

-- the new quantities, item by item
abbrev pub listed : NewQuantities → List (ℕ × ℕ)
listed x = pair_in x.first ++ pair_in x.second

-- nothing is on hand
abbrev pub no_cards : Cards
no_cards item = None

-- an item past this number of records has a new quantity
abbrev pub PassesRecords : NewQuantities → ℕ → Type 0
PassesRecords x count = (item : ℕ) × Contains (items (listed x)) item × (count < item)

-- The result of a call that reads one record of a file and checks it, for each f with P. At Ok `told` holds of the
-- answer, at an error `refused` of the fault. A block of the file is kept, or nothing. At most three sectors were read,
-- and nothing was written. The device's fault is returned only if it failed, and any other answer only if no failure
-- was counted.
pub record JudgesRecord {D T : Type 0} (S : History D) (old new : D) (file : RelFile) (last : LastBlock)
    (result : Result T OpenFault) (P : Files → Type 0) (told : Files → T → Type 0)
    (refused : Files → OpenFault → Type 0) : Type 0 where
  pub ok : (f : Files) → P f → IfOk result (told f)
  pub err : (f : Files) → P f → IfErr result (refused f)
  pub kept : IsKept (S.image old) file last
  pub reads : OnlyReads S old new 3
  pub failures : TellsJudging S old new result

-- the till's record is empty or this card, and is no intent for an item without a record; None: there is no such record
abbrev pub IsJudgedTill : Files → ℕ → Option (Option Card) → Type 0
IsJudgedTill f till None = length f.requests < till
IsJudgedTill f till (Some card) = (bytes : List ℕ) × (record_at f.requests till ≡ Some bytes)
    × (request_card_of bytes ≡ card) × IsRequestRecord bytes × ¬ (LacksRecord f.stock card)

-- a table of the tills' cards
abbrev pub HasTills : Files → List (Option Card) → Type 0
HasTills f table = (till : ℕ) → nth table till ≡ card_at (cards_in f.requests) till

-- the records of the tills up to this one are read into a table, and are valid
pub record IsReadTo (f : Files) (last : ℕ) (table : List (Option Card)) : Type 0 where
  pub long : length table ≡ 64
  pub there : last ≤ length f.requests
  pub below : (till : ℕ) → till ≤ last → nth table till ≡ card_at (cards_in f.requests) till
  pub above : (till : ℕ) → last < till → nth table till ≡ None
  pub records : (till : ℕ) (bytes : List ℕ) → till ≤ last → record_at f.requests till ≡ Some bytes
      → IsRequestRecord bytes × ¬ (LacksRecord f.stock (request_card_of bytes))

-- how many tills there are, and their cards; no till's record is bad
pub record AreTills (f : Files) (many : ℕ) (cards : List (Option Card)) : Type 0 where
  pub count : many ≡ length (cards_in f.requests)
  pub table : HasTills f cards
  pub records : (till : ℕ) (bytes : List ℕ) → till ≤ 64 → record_at f.requests till ≡ Some bytes
      → IsRequestRecord bytes × ¬ (LacksRecord f.stock (request_card_of bytes))

-- the only one of these open intents, whose card is in a table of the tills' cards
pub record IsOnlyIntent (table : List (Option Card)) (among : List Card) (x : Intent) : Type 0 where
  pub low : 1 ≤ x.till
  pub high : x.till ≤ 64
  pub at : nth table x.till ≡ Some x.card
  pub pending : x.card.pending ≡ true
  pub only : among ≡ x.card ∷ []

-- the only one of these, or None if there is none
abbrev pub IsIntentAmong : List (Option Card) → List Card → Option Intent → Type 0
IsIntentAmong table among None = among ≡ []
IsIntentAmong table among (Some x) = IsOnlyIntent table among x

-- the only open intent of a table
abbrev pub IsIntentOf : List (Option Card) → Option Intent → Type 0
IsIntentOf table = IsIntentAmong table (intents table)

-- the new quantities of the open intents
abbrev pub given : Option Intent → List (ℕ × ℕ)
given None = []
given (Some x) = results_of x.card.newest

-- the tills' cards of these files are checked: no record is bad, at most one intent is open, these are its new
-- quantities, and STOCK has the records of their items
pub record HasJudgedTills (f : Files) (x : NewQuantities) : Type 0 where
  pub no_bad_till : HasNoBadTill f
  pub few : open_intents f ≤ 1
  pub new : listed x ≡ results (intents (cards_in f.requests))
  pub there : (item : ℕ) → IsIntended f.requests item → IsSome (record_at f.stock item)

-- the item's record is empty, its card, or excused by an open intent, and this is on hand; None: there is no such
-- record
abbrev pub IsJudgedItem : Files → ℕ → Option (Option ℕ) → Type 0
IsJudgedItem f item None = length f.stock < item
IsJudgedItem f item (Some quantity) = (bytes : List ℕ) × (record_at f.stock item ≡ Some bytes)
    × (quantity ≡ (state_of f.stock f.requests).ledger.cards item)
    × (IsIntended f.requests item ⊎ IsStockRecord item bytes)

-- the records of the items up to this one are read into a table, and are valid
pub record IsCountedTo (f : Files) (last : ℕ) (table : List (Option ℕ)) : Type 0 where
  pub long : length table ≡ 10160
  pub there : last ≤ length f.stock
  pub below : (item : ℕ) → item ≤ last → nth table item ≡ (state_of f.stock f.requests).ledger.cards item
  pub above : (item : ℕ) → last < item → nth table item ≡ None
  pub records : (item : ℕ) (bytes : List ℕ) → item ≤ last → record_at f.stock item ≡ Some bytes
      → IsIntended f.requests item ⊎ IsStockRecord item bytes

-- what is on hand of each item; no record of STOCK is bad
pub record AreCards (f : Files) (table : List (Option ℕ)) : Type 0 where
  pub quantities : (item : ℕ) → nth table item ≡ (state_of f.stock f.requests).ledger.cards item
  pub records : (item : ℕ) (bytes : List ℕ) → record_at f.stock item ≡ Some bytes
      → IsIntended f.requests item ⊎ IsStockRecord item bytes

-- nothing was read yet
pub record IsNothing (x : LoadedShop) : Type 0 where
  pub cards : x.ledger.cards ≡ replicate 10160 None
  pub requests : x.ledger.requests ≡ replicate 64 None

-- what was read is what these files hold, and they are a ledger's
pub record IsJudged (f : Files) (x : LoadedShop) : Type 0 where
  pub records : AreLedgerRecords f.stock f.requests
  pub top : x.ledger.top ≡ f.top
  pub tills : x.ledger.tills ≡ length (cards_in f.requests)
  pub requests : HasTills f x.ledger.requests
  pub cards : (item : ℕ) → nth x.ledger.cards item ≡ (state_of f.stock f.requests).ledger.cards item
  pub intent : IsIntentOf x.ledger.requests x.intent
