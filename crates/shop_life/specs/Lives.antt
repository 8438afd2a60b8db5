-- A shop's life: what may happen to a disk, and to the sessions on it. Each step is what the contract of `Session::open` or
-- of `Session::handle` says. Power is lost by the world, and by no function. All of it is our own.
use Rattle.std.specs.Prelude.{ℕ, List, [], ◌∷◌, Option, Some, None, Ok, Err, option_to_list}
use Rattle.d64_image.specs.History.{History}
use Rattle.d64_image.specs.Images.{Image}
use Rattle.disk_layout.specs.Whole.{IsWhole}
use Rattle.host_session.specs.session.Handled.{IsHandled}
use Rattle.host_session.specs.session.Opened.{IsOpened, Opened, disk_of}
use Rattle.host_session.specs.session.Standing.{View}
use Rattle.host_session.specs.shop.Shop.{IsShop, Shop, start_of, with_state}
use Rattle.request_cards.specs.Ledgers.{plain}
use Rattle.request_cards.specs.Reading.{request_of}
use Rattle.request_cards.specs.Requests.{Ask}
use Rattle.request_cards.specs.declared.reply.Reply.{Reply}

-- the shop after these requests: each new one was applied once, in order
abbrev pub shop_after : Shop → List Ask → Shop
shop_after s asks = with_state s (plain (start_of s) asks)

-- where a life stands: a disk without a session, or with one
pub data Place (D : Type 0) : Type 0 where
  off : D → Place D
  on : View D → Place D

-- the disk there
abbrev pub disk_at : {D : Type 0} → Place D → D
disk_at (off d) = d
disk_at (on v) = v.disk

-- One step. A call in which power goes is the call as it would have ended, whose result nobody gets, and the disk that is
-- there when power is back.
pub data Step (D : Type 0) : Type 0 where
  -- `open` returned this
  opens : Opened D → Step D
  -- `handle` was passed this message, and returned this reply and left this session; the device may have failed in it
  handles : List ℕ → Reply → View D → Step D
  -- power went in an opening
  cut_in_opening : Opened D → D → Step D
  -- power went in a message
  cut_in_message : List ℕ → Reply → View D → D → Step D
  -- power went between two calls
  loses_power : D → Step D
  -- the session ended, and its disk stays
  ends : Step D
  -- without a session, the disk was copied, or came to another device
  moves : D → Step D

-- where an opening leads
abbrev pub opened_at : {D : Type 0} → Opened D → Place D
opened_at (Ok v) = on v
opened_at (Err e) = off e.1

-- where a step leads
abbrev pub went : {D : Type 0} → Place D → Step D → Place D
went p (opens r) = opened_at r
went p (handles m told new) = on new
went p (cut_in_opening r next) = off next
went p (cut_in_message m told new next) = off next
went p (loses_power next) = off next
went p ends = off (disk_at p)
went p (moves next) = off next

-- where steps lead
abbrev pub went_all : {D : Type 0} → Place D → List (Step D) → Place D
went_all p [] = p
went_all p (x ∷ xs) = went_all (went p x) xs

-- the disk at the end of the step's call, as it is or as it would have been
abbrev pub end_of : {D : Type 0} → Place D → Step D → D
end_of p (opens r) = disk_of r
end_of p (handles m told new) = new.disk
end_of p (cut_in_opening r next) = disk_of r
end_of p (cut_in_message m told new next) = new.disk
end_of p (loses_power next) = disk_at p
end_of p ends = disk_at p
end_of p (moves next) = disk_at p

-- the message of a step
abbrev pub message_in : {D : Type 0} → Step D → Option (List ℕ)
message_in (handles m told new) = Some m
message_in (cut_in_message m told new next) = Some m
message_in x = None

-- the request of a message, if it is one
abbrev pub asks_of : Option (List ℕ) → List Ask
asks_of None = []
asks_of (Some m) = option_to_list (request_of m)

module _ {D : Type 0} (hist : History D) where
  -- the image was held at a moment of the step
  abbrev pub IsHeldIn : Place D → Step D → Image → Type 0
  IsHeldIn p x c = hist.held (end_of p x) (hist.moment (disk_at p)) c

  -- The step may be made there. A call does what its contract says. Power leaves a disk whose image was held at a moment
  -- of the call in which it went, or is held now. What is moved stays the same shop's, and its files stay whole.
  abbrev pub May : Place D → Step D → Type 0
  May (off d) (opens r) = IsOpened hist d r
  May (on v) (handles m told new) = IsHandled hist v new m told
  May (off d) (cut_in_opening r next) =
      IsOpened hist d r × IsHeldIn (off d) (cut_in_opening r next) (hist.image next)
  May (on v) (cut_in_message m told new next) =
      IsHandled hist v new m told × IsHeldIn (on v) (cut_in_message m told new next) (hist.image next)
  May p (loses_power next) = IsHeldIn p (loses_power next) (hist.image next)
  May (on v) ends = Unit {0}
  May (off d) (moves next) = ((s : Shop) → IsShop (hist.image d) s → IsShop (hist.image next) s)
      × (IsWhole (hist.image d) → IsWhole (hist.image next))
  May _ _ = ⊥

  -- each step may be made where the ones before it led
  abbrev pub IsLife : Place D → List (Step D) → Type 0
  IsLife p [] = Unit {0}
  IsLife p (x ∷ xs) = May p x × IsLife (went p x) xs
