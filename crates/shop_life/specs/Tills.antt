-- Tills that ask until they hear, and a shop whose life goes on between their messages. All of it is our own.
use Rattle.d64_image.specs.History.{History}
use Rattle.host_session.specs.shop.Shop.{Shop, start_of}
use Rattle.shop_life.specs.Lives.{shop_after}
use Rattle.std.specs.Prelude.{◌≡◌, ℕ, List, [], ◌∷◌, ◌++◌, Some, slice_get}
use Rattle.request_cards.specs.declared.reply.Reply.{Reply}
use Rattle.request_cards.specs.declared.reply.Reply.TheVariants.{Cut, Syntax, Told}
use Rattle.request_cards.specs.declared.reply.Word.{Word}
use Rattle.request_cards.specs.declared.reply.Word.TheVariants.{Media}
use Rattle.request_cards.specs.Ledgers.{Start}
use Rattle.request_cards.specs.Requests.{Ask, Body}
use Rattle.request_cards.specs.Steps as tills
use Rattle.request_cards.specs.Steps.{HoldsAtBothEnds, World, at_start, stepped}
use Rattle.shop_life.specs.Lives.{May, Place, Step, asks_of, message_in, off, went}
use Rattle.shop_life.specs.Lives.Step.{handles}
use Rattle.shop_life.specs.OneList.{IsAt}

-- the tills and the shop: where the life stands, what was sent and given, and what each till has heard. The requests that
-- counted aren't listed here: which they are is for the theorem to find.
pub record Scene (D : Type 0) : Type 0 where
  pub place : Place D
  pub talk : World

-- What may happen. A till wishes; it asks, once more or for the first time; it hears a reply that was given. The shop's
-- life goes a step that no till's message makes. It goes a step with the message that was sent as number j.
pub data Happening (D : Type 0) : Type 0 where
  wishes : ℕ → Body → Happening D
  asks : ℕ → Happening D
  hears : ℕ → ℕ → Happening D
  lives_on : Step D → Happening D
  serves : ℕ → Step D → Happening D

-- MEDIA is no answer: a till that hears it asks again
abbrev pub told_as : ℕ → ℕ → Word → List Reply
told_as t n Media = []
told_as t n word = Told t n word ∷ []

-- the replies that tills hear when this one is given: itself, or none
abbrev pub answers_of : Reply → List Reply
answers_of Syntax = Syntax ∷ []
answers_of Cut = Cut ∷ []
answers_of (Told t n word) = told_as t n word

-- what a step gives the tills to hear
abbrev pub given_in : {D : Type 0} → Step D → List Reply
given_in (handles m told new) = answers_of told
given_in x = []

-- what it leads to
abbrev pub followed : {D : Type 0} → Start → Scene D → Happening D → Scene D
followed start sc (wishes t b) = record sc { talk = stepped start sc.talk (tills.wishes t b) }
followed start sc (asks t) = record sc { talk = stepped start sc.talk (tills.asks t) }
followed start sc (hears t j) = record sc { talk = stepped start sc.talk (tills.hears t j) }
followed start sc (lives_on x) = record sc { place = went sc.place x }
followed start sc (serves j x) =
    record { place = went sc.place x; talk = record sc.talk { given = sc.talk.given ++ given_in x } }

-- what one happening after another leads to
abbrev pub followed_all : {D : Type 0} → Start → Scene D → List (Happening D) → Scene D
followed_all start sc [] = sc
followed_all start sc (x ∷ xs) = followed_all start (followed start sc x) xs

-- with these as what counted
abbrev pub world_of : List Ask → World → World
world_of those w = record w { counted = those }

-- at first nobody said anything
abbrev pub first_scene : {D : Type 0} → Shop → D → Scene D
first_scene s disk = record { place = off disk; talk = at_start (start_of s) }

module _ {D : Type 0} (hist : History D) where
  -- whether it may happen there
  abbrev pub Fits : Scene D → Happening D → Type 0
  Fits sc (lives_on x) = May hist sc.place x × (asks_of (message_in x) ≡ [])
  Fits sc (serves j x) = (a : Ask) × May hist sc.place x × (asks_of (message_in x) ≡ a ∷ [])
      × (slice_get sc.talk.sent j ≡ Some a)
  Fits sc x = Unit {0}

  -- each may happen where the ones before it led
  abbrev pub FitAll : Start → Scene D → List (Happening D) → Type 0
  FitAll start sc [] = Unit {0}
  FitAll start sc (x ∷ xs) = Fits sc x × FitAll start (followed start sc x) xs

  -- There is one list of requests: the disk is the shop's after it, and over it each till has its new requests with their
  -- answers, in order and each once, at most one more is new, and none went astray.
  pub record HoldsAtAllEnds (s : Shop) (sc : Scene D) : Type 0 where
    pub counted : List Ask
    pub at : IsAt hist (shop_after s counted) sc.place
    pub ends : (till : ℕ) → HoldsAtBothEnds (start_of s) (world_of counted sc.talk) till
