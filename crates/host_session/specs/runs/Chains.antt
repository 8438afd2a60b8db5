-- A run as a chain of events. All of it is our own.
use Rattle.std.specs.Prelude.{◌≡◌, List, [], ◌∷◌, ◌++◌, map, zip}
use Rattle.d64_image.specs.History.{History}
use Rattle.host_session.specs.Held.{Changes}
use Rattle.request_cards.specs.declared.reply.Reply.{Reply}
use Rattle.host_session.specs.events.Counted.{after_all}
use Rattle.host_session.specs.events.Events.{Message}
use Rattle.host_session.specs.events.Instants.{Instant, instant_of}
use Rattle.host_session.specs.events.OneEvent.{EndsFailed, GoesOn, IsEvent}
use Rattle.host_session.specs.runs.Runs.{HeldBeginnings}
use Rattle.host_session.specs.session.Opening.{Untouched}
use Rattle.host_session.specs.shop.Shop.{IsSettled, IsShop, Shop, start_of, with_state}

-- One event after another: each begins on the disk and the shop on which the one before it ended, and ends at rest, on
-- the disk that is listed with its reply. What was held between the two is of that event alone.
abbrev pub IsChain : {D : Type 0} → History D → Shop → List Message → List (Reply × D) → D → Shop → D → Type 0
IsChain h s [] [] old t new = (t ≡ s) × (new ≡ old)
IsChain h s (m ∷ ms) (x ∷ xs) old t new =
    (e : IsEvent h s m old x.1 (GoesOn h s m x.0 x.1))
    × IsChain h (with_state s (after_all (start_of s) s.state e.counted)) ms xs x.1 t new
IsChain h s _ _ old t new = ⊥

-- A run up to here: the shop's disk was opened, and from there the events are a chain to this shop on this disk. Each
-- reply is listed with the disk that its event left.
pub record HasRun {D : Type 0} (h : History D) (s : Shop) (ms : List Message) (turns : List (Reply × D))
    (old new : D) : Type 0 where
  -- the disk as it was opened
  pub first : D
  pub opening : Changes h old first 952 (λ i. IsShop i s)
  -- a shop at rest was only read
  pub quiet : IsSettled (h.image old) s → Untouched h old first
  -- and no call failed in it
  pub unfailed : h.failures first ≡ h.failures old
  pub rests : IsSettled (h.image first) s
  -- the shop as it is now
  pub now : Shop
  pub chain : IsChain h s ms turns first now new

-- A run of these messages, in the last of which the device failed.
pub record HasRunToFailure {D : Type 0} (h : History D) (s : Shop) (ms : List Message) (turns : List (Reply × D))
    (last : Reply) (old new : D) : Type 0 where
  pub before : List Message
  pub message : Message
  pub parts : before ++ message ∷ [] ≡ ms
  -- the disk before the last one
  pub at : D
  pub run : HasRun h s before turns old at
  pub failed : IsEvent h run.now message at new (EndsFailed h run.now message last new)

-- After these messages, on the disk that is listed with the reply to the last of them, a run was at rest. From there on
-- only images of prefixes of the later messages were held, counted from the shop at that point.
pub record GrowsFrom {D : Type 0} (h : History D) (s : Shop) (ms ns : List Message) (turns : List (Reply × D))
    (old new : D) : Type 0 where
  pub at : D
  pub run : HasRun h s ms turns old at
  pub rests : IsSettled (h.image at) run.now
  pub behind : HeldBeginnings h run.now ns at new

-- the replies alone
abbrev pub told_in : {X : Type 0} → List (Reply × X) → List Reply
told_in turns = map (λ x. x.0) turns

-- Each message with the disk at the instant when it was asked for: the first with the disk as it was opened, every
-- other with the disk that is listed with the reply to the message before.
abbrev pub asked_over : {D : Type 0} → History D → D → List (Reply × D) → List Message → List (Message × Instant)
asked_over h first turns ms = zip ms (instant_of h first ∷ map (λ x. instant_of h x.1) turns)

-- each reply with its disk, at its instant
abbrev pub over_instants : {D : Type 0} → History D → List (Reply × D) → List (Reply × Instant)
over_instants h turns = map (λ x. (x.0, instant_of h x.1)) turns
