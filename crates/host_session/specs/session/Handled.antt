-- The result of a message to a session. All of it is our own.
use Rattle.std.specs.Prelude.{◌≡◌, ◌<◌, ◌≤◌, ◌+◌, ◌⊎◌, ℕ, List, None, false, true}
use Rattle.d64_image.specs.History.{Failed, History}
use Rattle.host_session.specs.Held.{Changes, IsOnward}
use Rattle.request_cards.specs.Ledgers.{reply_in}
use Rattle.request_cards.specs.Reading.{request_of}
use Rattle.request_cards.specs.declared.reply.Reply.{Reply}
use Rattle.request_cards.specs.declared.reply.Reply.TheVariants.{Syntax}
use Rattle.host_session.specs.session.Handling.{IsBeforeOrAfter, IsMedia, MayGrow, after_of, is_next_request, media}
use Rattle.host_session.specs.session.Handling.{most_writes}
use Rattle.host_session.specs.session.Standing.{View}
use Rattle.host_session.specs.shop.Files.{Files, HasFiles}
use Rattle.host_session.specs.shop.Shop.{IsSettled, IsShop, Shop, shop_of, start_of}

-- A session was passed a message, and returned this reply.
pub record IsHandled {D : Type 0} (h : History D) (old new : View D) (message : List ℕ) (told : Reply) : Type 0 where
  -- what lies outside the grammar changes nothing
  pub syntax : request_of message ≡ None → (told ≡ Syntax) × (new ≡ old)
  -- neither does any message to a dead session
  pub dead : old.dead ≡ true → (told ≡ media (request_of message)) × (new ≡ old)
  -- nor one that isn't its till's next request: the shop is the one after the message as it is
  pub quiet : (s : Shop) → IsShop (h.image old.disk) s → old.dead ≡ false
      → is_next_request s (request_of message) ≡ false
      → (told ≡ reply_in (start_of s) s.state (request_of message)) × (new ≡ old)
  -- any reply but MEDIA is the message's, and leaves the shop after it
  pub reply : (s : Shop) → IsShop (h.image old.disk) s → old.dead ≡ false → ¬ (IsMedia told)
      → (told ≡ reply_in (start_of s) s.state (request_of message))
      × IsSettled (h.image new.disk) (after_of s message) × (new.dead ≡ false)
  -- each image held on the way is the shop's before the message or after it
  pub moments : (s : Shop) → IsShop (h.image old.disk) s
      → Changes h old.disk new.disk 3618 (IsBeforeOrAfter s message)
  -- and the message isn't taken back: at the end the shop is the one after it, or none but the one before it was held
  pub onward : (s : Shop) → IsShop (h.image old.disk) s
      → IsOnward h old.disk new.disk (λ i. IsShop i s) (λ i. IsShop i (after_of s message))
  -- how many sectors are written at most
  pub writes : (f : Files) → (x : HasFiles (h.image old.disk) f)
      → h.writes new.disk ≤ h.writes old.disk + most_writes (shop_of f) x.stock_file (request_of message)
  -- as soon as a write was counted the shop is the one after, unless STOCK may have grown
  pub counted : (s : Shop) → IsShop (h.image old.disk) s → h.writes old.disk < h.writes new.disk
      → MayGrow s (request_of message) ⊎ IsShop (h.image new.disk) (after_of s message)
  -- MEDIA names the message's own request
  pub media : IsMedia told → told ≡ media (request_of message)
  -- the word MEDIA comes exactly if the session is dead, or the device failed now, and then it is dead
  pub failures : (IsMedia told × (new.dead ≡ true) × ((old.dead ≡ true) ⊎ Failed h old.disk new.disk))
      ⊎ (¬ (IsMedia told) × (h.failures new.disk ≡ h.failures old.disk))
