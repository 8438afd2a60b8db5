-- Lines that are handled over memory, one after another. All of it is our own.
use Rattle.std.specs.Prelude.{◌≡◌, List, [], ◌∷◌, false}
use Rattle.request_cards.specs.Ledgers.{reply_in}
use Rattle.request_cards.specs.Reading.{request_of}
use Rattle.request_cards.specs.declared.reply.Reply.{Reply}
use Rattle.host_session.specs.session.Handling.{after_of, is_next_request}
use Rattle.host_session.specs.session.Standing.{View}
use Rattle.host_session.specs.shop.Shop.{IsSettled, Shop, start_of}
use Rattle.d64_image.specs.Memory.{memory}
use Rattle.disk_layout.specs.Whole.{IsWhole}
use Rattle.image_log.specs.Touched.{KeepsCover}
use Rattle.std.specs.List.{AllByRecursion}
use Rattle.std.specs.Prelude.{ℕ}
use Rattle.line_server.specs.logged.Memory.{Memory, image_of}

-- the shop after these lines
abbrev pub shop_after : Shop → List (List ℕ) → Shop
shop_after s [] = s
shop_after s (l ∷ ls) = shop_after (after_of s l) ls

-- the reply to each of them, over the shop after those before it
abbrev pub replies_after : Shop → List (List ℕ) → List Reply
replies_after s [] = []
replies_after s (l ∷ ls) = reply_in (start_of s) s.state (request_of l) ∷ replies_after (after_of s l) ls

-- none of them is its till's next request
abbrev pub AskNone : Shop → List (List ℕ) → Type 0
AskNone s ls = AllByRecursion (λ l. is_next_request s (request_of l) ≡ false) ls

-- A shop at rest in a session that isn't dead.
pub record IsAtRest (session : View Memory) (s : Shop) : Type 0 where
  pub alive : session.dead ≡ false
  pub rests : IsSettled (image_of session.disk) s

-- A line was handled: its reply, and the shop at rest after it. What was written is marked.
pub record IsHandledWell (old new : View Memory) (line : List ℕ) (reply : Reply) : Type 0 where
  pub told : (s : Shop) → IsAtRest old s
      → (reply ≡ reply_in (start_of s) s.state (request_of line)) × IsAtRest new (after_of s line)
  pub marks : (s : Shop) → IsAtRest old s → KeepsCover memory old.disk new.disk
  -- if all files are whole, they stay so
  pub files : (s : Shop) → IsAtRest old s → IsWhole (image_of old.disk) → IsWhole (image_of new.disk)
  pub quiet : (s : Shop) → IsAtRest old s → is_next_request s (request_of line) ≡ false
      → new ≡ old

-- These lines were handled in this way, one after another.
pub record AreHandled (old new : View Memory) (ls : List (List ℕ)) (answers : List Reply) : Type 0 where
  pub told : (s : Shop) → IsAtRest old s → (answers ≡ replies_after s ls) × IsAtRest new (shop_after s ls)
  pub marks : (s : Shop) → IsAtRest old s → KeepsCover memory old.disk new.disk
  pub files : (s : Shop) → IsAtRest old s → IsWhole (image_of old.disk) → IsWhole (image_of new.disk)
  pub quiet : (s : Shop) → IsAtRest old s → AskNone s ls → new ≡ old
