-- What a message does to a shop's disk. All of it is our own.
use Rattle.std.specs.Prelude.{◌≡◌, ◌⊎◌, ℕ, Bool, true, false, ◌+◌, ◌&&◌, List, [], ◌∷◌, Option, Some, None, is_none}
use Rattle.std.specs.Prelude.{if◌then◌else◌, nat_le}
use Rattle.d64_image.specs.Images.{Image}
use Rattle.disk_layout.specs.Layout.{File}
use Rattle.rel_records.specs.Written.{touched}
use Rattle.rel_records.specs.growth.Growth.{growth_writes}
use Rattle.request_cards.specs.declared.kind.Kind.TheVariants.{Set}
use Rattle.request_cards.specs.declared.reply.Reply.{Reply}
use Rattle.request_cards.specs.declared.reply.Reply.TheVariants.{Syntax, Told}
use Rattle.request_cards.specs.declared.reply.Word.TheVariants.{Media}
use Rattle.request_cards.specs.Ledgers.{State, after_message, next_in}
use Rattle.request_cards.specs.Reading.{request_of}
use Rattle.request_cards.specs.Requests.{Ask, same_kind}
use Rattle.request_cards.specs.Trade.{outcome}
use Rattle.host_session.specs.shop.Shop.{IsShop, Shop, results_in, start_of, with_state}

-- the word of the reply is MEDIA
abbrev pub IsMedia : Reply → Type 0
IsMedia r = (t : ℕ) × (n : ℕ) × (r ≡ Told t n Media)

-- the reply to a message if the device fails, or has failed
abbrev pub media : Option Ask → Reply
media None = Syntax
media (Some a) = Told a.till a.number Media

-- the shop after a message
abbrev pub after_of : Shop → List ℕ → Shop
after_of s message = with_state s (after_message (start_of s) s.state (request_of message))

-- the image is the shop's before the message, or after it
abbrev pub IsBeforeOrAfter : Shop → List ℕ → Image → Type 0
IsBeforeOrAfter s message img = IsShop img s ⊎ IsShop img (after_of s message)

-- whether the message is the next request of its till
abbrev pub is_next_request : Shop → Option Ask → Bool
is_next_request s None = false
is_next_request s (Some a) = next_in (start_of s) s.state a

-- a set of an item up to the top that has no card: only this may grow STOCK
abbrev pub is_first_set : State → ℕ → Ask → Bool
is_first_set state top a =
    same_kind a.body.kind Set && (nat_le a.body.item top && is_none (state.ledger.cards a.body.item))

-- the message is such a set
abbrev pub MayGrow : Shop → Option Ask → Type 0
MayGrow s None = ⊥
MayGrow s (Some a) = is_first_set s.state s.top a ≡ true

-- the sector writes of cards: one for each block in which a card lies
abbrev pub card_writes : List (ℕ × ℕ) → ℕ
card_writes [] = 0
card_writes (q ∷ more) = touched 18 q.0 1 + card_writes more

-- the sector writes of a kept answer: the answer alone; or growth of STOCK, which is this file, to the item's record,
-- the intent, the cards, and the answer
abbrev pub kept_writes : File → ℕ → List (ℕ × ℕ) → ℕ
kept_writes stock item [] = 1
kept_writes stock item (q ∷ more) = growth_writes stock item + 2 + card_writes (q ∷ more)

-- the most sector writes of a message: none, if it isn't its till's next request
abbrev pub most_writes : Shop → File → Option Ask → ℕ
most_writes s stock None = 0
most_writes s stock (Some a) = if next_in (start_of s) s.state a
    then kept_writes stock a.body.item (results_in a.body (outcome s.state.ledger.cards s.top a.body).0) else 0
