-- Messages that ask nothing new of a shop, and what they leave on its disk. All of it is our own.
use Rattle.std.specs.Prelude.{◌≡◌, ℕ, false, List, None, Option, Some}
use Rattle.std.specs.List.{AllByRecursion}
use Rattle.d64_image.specs.History.{History}
use Rattle.host_session.specs.Held.{Changes, HeldOnly}
use Rattle.request_cards.specs.Reading.{request_of}
use Rattle.host_session.specs.events.Events.{Message}
use Rattle.host_session.specs.session.Handling.{is_next_request}
use Rattle.host_session.specs.session.Opening.{Untouched}
use Rattle.host_session.specs.shop.Shop.{IsSettled, IsShop, Shop}

-- The message is no request, or one that isn't its till's next: a repeat, a clash, a stale number or one ahead, a till
-- that the shop hasn't got.
abbrev pub AsksNothing : Shop → Message → Type 0
AsksNothing s m = is_next_request s (request_of m.bytes) ≡ false

-- The device is as it was. If power fails in the message, the device held no other image.
abbrev pub IsLeftAlone : {D : Type 0} → History D → Option ℕ → D → D → Type 0
IsLeftAlone h None old new = new ≡ old
IsLeftAlone h (Some after) old new = HeldOnly h old new (λ i. i ≡ h.image old)

-- a message that asks nothing new leaves the device alone
abbrev pub LeavesAlone : {D : Type 0} → History D → Shop → Message → D → D → Type 0
LeavesAlone h s m old new = AsksNothing s m → IsLeftAlone h m.cut_after old new

-- each of these messages asks nothing new
abbrev pub AskNothing : Shop → List Message → Type 0
AskNothing s ms = AllByRecursion (AsksNothing s) ms

-- power fails in none of these messages
abbrev pub AreUncut : List Message → Type 0
AreUncut ms = AllByRecursion (λ m. m.cut_after ≡ None) ms

-- From old to new the shop stayed the same one, and a disk at rest held nothing else. If power fails in no message, at
-- most as many sectors were written as by an opening, and none on a disk at rest.
pub record IsQuiet {D : Type 0} (h : History D) (s : Shop) (ms : List Message) (old new : D) : Type 0 where
  pub shop : HeldOnly h old new (λ i. IsShop i s)
  pub rests : IsSettled (h.image old) s → HeldOnly h old new (λ i. i ≡ h.image old)
  pub opening : AreUncut ms → Changes h old new 952 (λ i. IsShop i s)
  pub unwritten : AreUncut ms → IsSettled (h.image old) s → Untouched h old new
