-- What one event of a run does. All of it is our own.
use Rattle.std.specs.Prelude.{◌≡◌, ◌≢◌, ◌≤◌, ◌⊎◌, Bool, true, false, List, Some, None, IsSome}
use Rattle.d64_image.specs.Images.{Image}
use Rattle.d64_image.specs.History.{Failed, History}
use Rattle.host_session.specs.Held.{HeldOnly}
use Rattle.request_cards.specs.declared.reply.Reply.{Reply}
use Rattle.request_cards.specs.Ledgers.{State}
use Rattle.request_cards.specs.Reading.{request_of}
use Rattle.request_cards.specs.Requests.{Ask}
use Rattle.host_session.specs.events.Counted.{MayCount, after_all, answer}
use Rattle.host_session.specs.events.Events.{Message}
use Rattle.host_session.specs.events.Quiet.{LeavesAlone}
use Rattle.host_session.specs.session.Handling.{after_of}
use Rattle.host_session.specs.shop.Shop.{IsSettled, IsShop, Shop, start_of, with_state}

-- an image held in an event: its message doesn't count yet; or it does, and power lasted for a write of it
abbrev pub IsInEvent : Shop → Message → Image → Type 0
IsInEvent s m image = IsShop image s ⊎ ((m.cut_after ≢ Some 0) × IsShop image (after_of s m.bytes))

-- An event from the shop s on: whether the device failed in it, what its message counts, and what holds of the end.
pub record IsEvent {D : Type 0} (h : History D) (s : Shop) (m : Message) (old new : D)
    (Ends : Bool → State → Type 0) : Type 0 where
  pub failed : Bool
  pub counted : List Ask
  pub is : MayCount s.top s.state (request_of m.bytes) m.cut_after failed counted
  pub blame : failed ≡ true → Failed h old new
  pub later : h.failures old ≤ h.failures new
  -- no call failed if power didn't fail and no failure is reported
  pub unfailed : m.cut_after ≡ None → failed ≡ false → h.failures new ≡ h.failures old
  pub moments : HeldOnly h old new (IsInEvent s m)
  pub quiet : LeavesAlone h s m old new
  pub ends : Ends failed (after_all (start_of s) s.state counted)

-- the disk is that of the requests counted
abbrev pub Leaves : {D : Type 0} → History D → Shop → D → Bool → State → Type 0
Leaves h s new failed state = IsShop (h.image new) (with_state s state)

-- The run goes on after the event: this is its reply, and the shop is settled.
pub record GoesOn {D : Type 0} (h : History D) (s : Shop) (m : Message) (reply : Reply) (new : D)
    (failed : Bool) (state : State) : Type 0 where
  pub told : reply ≡ answer (start_of s) s.state m failed
  pub answered : m.cut_after ≡ None → failed ≡ false
  pub settled : IsSettled (h.image new) (with_state s state)

-- The run ends with the event, in which the device failed.
pub record EndsFailed {D : Type 0} (h : History D) (s : Shop) (m : Message) (reply : Reply) (new : D)
    (failed : Bool) (state : State) : Type 0 where
  pub told : reply ≡ answer (start_of s) s.state m failed
  pub asked : m.cut_after ≡ None → IsSome (request_of m.bytes)
  pub is_failed : failed ≡ true
  pub shop : IsShop (h.image new) (with_state s state)
