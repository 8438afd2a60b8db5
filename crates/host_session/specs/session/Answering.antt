-- What the answer to a request leaves of a session. All of it is our own.
use Rattle.std.specs.Prelude.{◌≡◌, ◌≢◌, ◌≤◌, ◌<◌, ◌+◌, ◌⊎◌, false, true, Some}
use Rattle.d64_image.specs.History.{Failed, History}
use Rattle.host_session.specs.Held.{Changes, IsOnward}
use Rattle.request_cards.specs.declared.reply.Word.{Word}
use Rattle.request_cards.specs.declared.reply.Word.TheVariants.{Media}
use Rattle.request_cards.specs.Ledgers.{after, word_in}
use Rattle.request_cards.specs.Requests.{Ask}
use Rattle.host_session.specs.session.Handling.{MayGrow, most_writes}
use Rattle.host_session.specs.session.Standing.{View}
use Rattle.host_session.specs.shop.Files.{Files, HasFiles}
use Rattle.host_session.specs.shop.Shop.{IsSettled, IsShop, Shop, shop_of, start_of, with_state}

-- the shop after a request: changed only if that is its till's next one
abbrev pub after_ask : Shop → Ask → Shop
after_ask s a = with_state s (after (start_of s) s.state a)

-- A session that wasn't dead has answered the request with this word.
pub record IsAnswered {D : Type 0} (S : History D) (old new : View D) (a : Ask) (word : Word) : Type 0 where
  -- any word but MEDIA is the request's, and the shop after it is at rest
  pub reply : (s : Shop) → IsShop (S.image old.disk) s → word ≢ Media
      → (word ≡ word_in (start_of s) s.state a) × IsSettled (S.image new.disk) (after_ask s a) × (new.dead ≡ false)
  -- each image held on the way is the shop's before the request or after it
  pub moments : (s : Shop) → IsShop (S.image old.disk) s
      → Changes S old.disk new.disk 3618 (λ i. IsShop i s ⊎ IsShop i (after_ask s a))
  -- at the end the shop is the one after the request, or none but the one before it was held
  pub onward : (s : Shop) → IsShop (S.image old.disk) s
      → IsOnward S old.disk new.disk (λ i. IsShop i s) (λ i. IsShop i (after_ask s a))
  pub writes : (f : Files) → (h : HasFiles (S.image old.disk) f)
      → S.writes new.disk ≤ S.writes old.disk + most_writes (shop_of f) h.stock_file (Some a)
  -- as soon as a write was counted the shop is the one after, unless STOCK may have grown
  pub counted : (s : Shop) → IsShop (S.image old.disk) s → S.writes old.disk < S.writes new.disk
      → MayGrow s (Some a) ⊎ IsShop (S.image new.disk) (after_ask s a)
  -- MEDIA, and a dead session, come exactly if the device failed
  pub failures : ((word ≡ Media) × (new.dead ≡ true) × Failed S old.disk new.disk)
      ⊎ ((word ≢ Media) × (S.failures new.disk ≡ S.failures old.disk))
