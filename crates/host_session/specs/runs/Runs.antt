-- What a run of events promises. All of it is our own.
use Rattle.std.specs.Prelude.{◌≡◌, ◌≢◌, ℕ, ◌<◌, ◌≤◌, ◌+◌, Bool, List, [], ◌++◌, ◌∷◌, if◌then◌else◌}
use Rattle.d64_image.specs.Images.{Image}
use Rattle.d64_image.specs.History.{Failed, History}
use Rattle.host_session.specs.Held.{Changes, HeldOnly}
use Rattle.request_cards.specs.declared.reply.Reply.{Reply}
use Rattle.request_cards.specs.Ledgers.{State, plain}
use Rattle.request_cards.specs.Requests.{Ask}
use Rattle.request_cards.specs.Sums.{SumsAgree}
use Rattle.host_session.specs.declared.faults.OpenFault.{OpenFault}
use Rattle.host_session.specs.declared.faults.OpenFault.TheVariants as faults
use Rattle.host_session.specs.events.Counted.{FailsAtLast, IsCounted, NoneGotMedia, all_of, answers}
use Rattle.host_session.specs.events.Events.{Message}
use Rattle.host_session.specs.session.Opening.{IsAShop, Refuses, Untouched}
use Rattle.host_session.specs.shop.Shop.{IsSettled, IsShop, Shop, start_of, with_state}

-- the number of messages in which the device failed by these flags
abbrev pub blamed : List Bool → ℕ
blamed [] = 0
blamed (f ∷ fs) = (if f then 1 else 0) + blamed fs

-- those are at most as many as failures were counted, if the count isn't spent
abbrev pub IsBlamed : {D : Type 0} → History D → D → D → List Bool → Type 0
IsBlamed h old new fails = h.failures new < h.last → h.failures old + blamed fails ≤ h.failures new

-- The image is the shop's after a counted list of a prefix of the messages. Each of these without a reset was answered.
pub record IsSomeBeginning (s : Shop) (messages : List Message) (Blamed : List Bool → Type 0)
    (image : Image) : Type 0 where
  pub begun : List Message
  pub rest : List Message
  pub parts : begun ++ rest ≡ messages
  pub fails : List Bool
  pub counted : List (List Ask)
  pub is : IsCounted (start_of s) [] begun fails counted
  pub whole : NoneGotMedia begun fails
  pub blame : Blamed fails
  pub shop : IsShop image (with_state s (plain (start_of s) (all_of counted)))

-- These messages were played from the shop s on and got these replies; and what holds at the end.
pub record IsPlayed {D : Type 0} (h : History D) (s : Shop) (messages : List Message) (old new : D) (told : List Reply)
    (Whole : List Message → List Bool → Type 0) (Ends : State → Type 0) : Type 0 where
  pub fails : List Bool
  pub counted : List (List Ask)
  pub is : IsCounted (start_of s) [] messages fails counted
  pub whole : Whole messages fails
  pub blame : IsBlamed h old new fails
  pub told_is : told ≡ answers (start_of s) [] messages fails counted
  -- all goods at the start and what came in are all goods now and what went out
  pub sums : SumsAgree (start_of s) (all_of counted)
  pub ends : Ends (plain (start_of s) (all_of counted))

-- every message was played: each without a reset was answered, and the shop is settled
abbrev pub IsPlayedWhole : {D : Type 0} → History D → Shop → List Message → D → D → List Reply → Type 0
IsPlayedWhole h s messages old new told =
    IsPlayed h s messages old new told NoneGotMedia (λ state. IsSettled (h.image new) (with_state s state))

-- A prefix of the messages was played, and in the last of them the device failed.
pub record StoppedByDevice {D : Type 0} (h : History D) (s : Shop) (messages : List Message) (old new : D)
    (told : List Reply) : Type 0 where
  pub begun : List Message
  pub rest : List Message
  pub parts : begun ++ rest ≡ messages
  pub played : IsPlayed h s begun old new told FailsAtLast (λ state. IsShop (h.image new) (with_state s state))

-- A prefix of the messages was played, and the output failed to take the last reply.
pub record StoppedByOutput {D : Type 0} (h : History D) (s : Shop) (messages : List Message) (old new : D)
    (told : List Reply) : Type 0 where
  pub begun : List Message
  pub rest : List Message
  pub parts : begun ++ rest ≡ messages
  pub some : begun ≢ []
  pub played : IsPlayedWhole h s begun old new told

-- at each moment of a run the shop is that of a prefix
abbrev pub HeldBeginnings : {D : Type 0} → History D → Shop → List Message → D → D → Type 0
HeldBeginnings h s messages old new = HeldOnly h old new (IsSomeBeginning s messages (IsBlamed h old new))

-- The opening of a run was refused, in the same way as an opening alone is.
pub record IsRefused {D : Type 0} (h : History D) (old : D) (fault : OpenFault) (new : D) : Type 0 where
  pub refused : Refuses (Failed h old new) (h.image old) fault
  -- a shop stays that shop at each moment
  pub same : (s : Shop) → IsShop (h.image old) s → Changes h old new 952 (λ c. IsShop c s)
  pub kept : fault ≢ faults.Device → Untouched h old new
  pub unfit : (IsAShop (h.image old) → ⊥) → Untouched h old new
