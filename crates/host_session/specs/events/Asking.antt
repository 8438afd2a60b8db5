-- The sources of a run's events. All of it is our own.
use Rattle.std.specs.Prelude.{◌≡◌, ℕ, ◌<◌, ◌≤◌, ◌-◌, ◌==◌, if◌then◌else◌, drop, slice_get, List, []}
use Rattle.std.specs.Prelude.{◌∷◌, ◌++◌, None, Some, Option, length, map, option_map, refl}
use Rattle.line_text.specs.scripts.Lines.{lines}
use Rattle.line_text.specs.scripts.Resets.{first_bad}
use Rattle.line_text.specs.declared.scripts.events.Event.{Event}
use Rattle.host_session.specs.declared.events.sources.Next.{Next}
use Rattle.host_session.specs.declared.events.sources.Next.TheVariants as next
use Rattle.host_session.specs.declared.events.sources.EventList.{EventList}
use Rattle.host_session.specs.declared.events.sources.ScriptEvents.{ScriptEvents}
use Rattle.host_session.specs.events.Events.{Message, message_of, messages_of, uncut}
use Rattle.host_session.specs.events.Instants.{Instant}

-- the messages alone
abbrev pub messages_in : {X : Type 0} → List (Message × X) → List Message
messages_in taken = map (λ x. x.0) taken

-- What is known of the messages that a source gives.
pub record Source (A : Type 0) : Type 1 where
  -- from the first to the second these messages were taken, in this order, each with a disk at this instant, and
  -- nothing else
  pub gives : A → A → List (Message × Instant) → Type 0
  -- the message that was taken last
  pub here : A → Message
  -- no message is left
  pub is_over : A → Type 0
  -- the input failed
  pub has_failed : A → Type 0
  -- how many more there can be
  pub fuel : A → ℕ
  pub none : (x : A) → gives x x []

-- nothing was taken
abbrev pub TakesNone : {A : Type 0} → Source A → A → A → Type 0
TakesNone {A} a old new = (first : A) (xs : List (Message × Instant)) → a.gives first old xs → a.gives first new xs

-- the message that is here now was taken, over a disk at this instant
abbrev pub TakesOne : {A : Type 0} → Source A → A → A → Instant → Type 0
TakesOne {A} a old new at = (first : A) (xs : List (Message × Instant)) → a.gives first old xs
    → a.gives first new (xs ++ (a.here new, at) ∷ [])

-- the source didn't fail between the two: if it has failed, it had before
abbrev pub FailsNoMore : {A : Type 0} → Source A → A → A → Type 0
FailsNoMore a old new = a.has_failed new → a.has_failed old

-- these messages were taken of it, and it didn't fail
abbrev pub GivesWell : {A : Type 0} → Source A → A → A → List (Message × Instant) → Type 0
GivesWell a old new xs = a.gives old new xs × FailsNoMore a old new

-- the result of asking for the next event, with a disk at this instant: the source failed if the result says so, and
-- only then
abbrev pub IsNext : {A : Type 0} → Source A → A → A → Instant → Next → Type 0
IsNext a old new at next.Event = TakesOne a old new at × (a.fuel new < a.fuel old) × FailsNoMore a old new
IsNext a old new at next.End = TakesNone a old new × a.is_over new × FailsNoMore a old new
IsNext a old new at next.Failed = TakesNone a old new × a.has_failed new

-- the lines that were taken of a script without a bad line
abbrev pub of_script : Source ScriptEvents
of_script = record {
  gives = λ first now xs. first_bad (lines first.left.now) ≡ None
      → (first_bad (lines now.left.now) ≡ None)
      × (messages_of (lines first.left.now) ≡ messages_in xs ++ messages_of (lines now.left.now));
  here = λ now. record { bytes = now.message.now; cut_after = option_map (λ c. c.after) now.cut };
  is_over = λ now. lines now.left.now ≡ [];
  has_failed = λ _. ⊥;
  fuel = λ now. length now.left.now;
  none = λ _ good. (good, refl);
}

-- the event that was taken last, if this number were taken
abbrev pub last_taken : ℕ → List Event → Option Event
last_taken n events = if n == 0 then None else slice_get events (n - 1)

-- the message of an event; without an event an empty one
abbrev pub message_here : Option Event → Message
message_here None = uncut []
message_here (Some e) = message_of e

-- the events that were taken of a list
abbrev pub of_events : Source EventList
of_events = record {
  gives = λ first now xs. (now.events.now ≡ first.events.now)
      × (map message_of (drop first.taken first.events.now)
      ≡ messages_in xs ++ map message_of (drop now.taken first.events.now));
  here = λ now. message_here (last_taken now.taken now.events.now);
  is_over = λ now. length now.events.now ≤ now.taken;
  has_failed = λ _. ⊥;
  fuel = λ now. length now.events.now - now.taken;
  none = λ _. (refl, refl);
}
