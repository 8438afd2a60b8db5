-- A till's next request, as it is kept on the disk. All of it is our own.
use Rattle.std.specs.Prelude.{◌≡◌, ◌≤◌, ◌⊎◌, ℕ, false, [], Contains, IsSome, Result, length}
use Rattle.d64_image.specs.History.{History, IfCounted}
use Rattle.d64_image.specs.Images.{Image}
use Rattle.drive_channels.specs.State.{Seen}
use Rattle.drive_channels.specs.declared.faults.Dead.{Dead}
use Rattle.request_cards.specs.declared.answer.Answer.{Answer}
use Rattle.request_cards.specs.CardTexts.{Card, IsCard, is_done}
use Rattle.request_cards.specs.Ledgers.{applied}
use Rattle.request_cards.specs.Requests.{Ask}
use Rattle.request_cards.specs.Trade.{outcome}
use Rattle.host_session.specs.Held.{IsOnward}
use Rattle.host_session.specs.shop.Files.{Files, HasFiles, record_at}
use Rattle.host_session.specs.shop.Puts.{Puts}
use Rattle.host_session.specs.shop.Shop.{AreLedgerRecords, IsSettled, IsShop, Shop, any_old, cards_in, intents, items}
use Rattle.host_session.specs.shop.Shop.{results_of, shop_of, with_state}

-- what the trade rule answers to a request in this shop
abbrev pub answer_of : Shop → Ask → Answer
answer_of s a = (outcome s.state.ledger.cards s.top a.body).0

-- the shop after the next request of a till
abbrev pub shop_after : Shop → Ask → Shop
shop_after s a = with_state s (applied s.top s.state a)

-- the image is the shop's before the request or after it
abbrev pub IsEither : Shop → Ask → Image → Type 0
IsEither s a img = IsShop img s ⊎ IsShop img (shop_after s a)

-- f holds a shop at rest, and the request's till is one of its tills. c is the card that the till is to have: the
-- request with its answer, an open intent if it is done, and after it the till's last request
pub record IsKeeping (f : Files) (a : Ask) (c : Card) : Type 0 where
  pub records : AreLedgerRecords f.stock f.requests
  pub no_intent : intents (cards_in f.requests) ≡ []
  pub no_old_card : any_old (cards_in f.requests) ≡ false
  pub till_low : 1 ≤ a.till
  pub till_high : a.till ≤ 64
  pub till_there : a.till ≤ length f.requests
  pub is_card : IsCard c
  pub version : c.version ≡ 2
  pub newest : c.newest ≡ record { number = a.number; body = a.body; answer = answer_of (shop_of f) a }
  pub second : c.second ≡ (shop_of f).state.ledger.kept a.till
  pub pending : c.pending ≡ is_done (answer_of (shop_of f) a)

-- STOCK has the record of each item to which the card's answer gives a new quantity
abbrev pub HasItems : Files → Card → Type 0
HasItems f c = (item : ℕ) → Contains (items (results_of c.newest)) item → IsSome (record_at f.stock item)

-- A call keeps the card on the disk, with at most this number of writes. At Ok the shop is the one after the request, at
-- rest; on the way it was the one before it or after it.
abbrev pub KeepsAnswer : {D : Type 0} (S : History D) (old new : Seen D) → Result (Unit {0}) Dead → (a : Ask) (c : Card)
    → ((f : Files) → HasFiles (S.image old.disk) f × IsKeeping f a c → ℕ) → Type 0
KeepsAnswer S old new result a c most = Puts S old new result (λ f. HasFiles (S.image old.disk) f × IsKeeping f a c)
    most (λ f. IsEither (shop_of f) a) (λ f i. IsSettled i (shop_after (shop_of f) a))

-- as soon as a write of such a call was counted, the shop is the one after the request
abbrev pub IsAfterCounted : {D : Type 0} (S : History D) (old new : Seen D) → Ask → Card → Type 0
IsAfterCounted S old new a c = (f : Files) → HasFiles (S.image old.disk) f → IsKeeping f a c
    → IfCounted S old.disk new.disk (λ i. IsShop i (shop_after (shop_of f) a))

-- and what was shown of it isn't taken back
abbrev pub KeepsOnward : {D : Type 0} (S : History D) (old new : Seen D) → Ask → Card → Type 0
KeepsOnward S old new a c = (f : Files) → HasFiles (S.image old.disk) f → IsKeeping f a c
    → IsOnward S old.disk new.disk (λ i. IsShop i (shop_of f)) (λ i. IsShop i (shop_after (shop_of f) a))
