-- Replies that an output was passed, each with the disk as it was then. All of it is our own.
use Rattle.std.specs.Prelude.{◌≡◌, ℕ, ◌≤◌, ◌+◌, List, [], ◌∷◌, ◌++◌, Ok, Err, Result}
use Rattle.request_cards.specs.declared.reply.Reply.{Reply}
use Rattle.host_session.specs.events.Instants.{Instant}

-- What is known of the replies that an output was passed.
pub record Output (T : Type 0) : Type 1 where
  -- from the first to the second these replies were passed, in this order, each with a disk at this instant, and
  -- nothing else
  pub told : T → T → List (Reply × Instant) → Type 0
  -- these replies were passed in this way, and then this one with a disk at its instant, in part, not at all, or whole;
  -- and nothing else
  pub broken_off : T → T → List (Reply × Instant) → Reply × Instant → Type 0
  -- nothing that was passed is buffered
  pub is_handed_on : T → Type 0
  -- how many more it surely takes
  pub room : T → ℕ
  pub none : (x : T) → told x x []

-- the replies that an output inside another was passed
abbrev pub output_in : {T U : Type 0} → (T → U) → Output U → Output T
output_in f o = record {
  told = λ old new. o.told (f old) (f new);
  broken_off = λ old new. o.broken_off (f old) (f new);
  is_handed_on = λ x. o.is_handed_on (f x);
  room = λ x. o.room (f x);
  none = λ x. o.none (f x);
}

-- this reply was passed with a disk at this instant, and nothing else
abbrev pub TellsOne : {T : Type 0} → Output T → T → T → Reply → Instant → Type 0
TellsOne {T} o old new reply at = (first : T) (xs : List (Reply × Instant)) → o.told first old xs
    → o.told first new (xs ++ (reply, at) ∷ [])

-- this reply was broken off with a disk at this instant, and nothing else was passed
abbrev pub BreaksOff : {T : Type 0} → Output T → T → T → Reply → Instant → Type 0
BreaksOff {T} o old new reply at = (first : T) (xs : List (Reply × Instant)) → o.told first old xs
    → o.broken_off first new xs (reply, at)

-- the replies that were passed stay, and no more were passed
abbrev pub TellsNone : {T : Type 0} → Output T → T → T → Type 0
TellsNone {T} o old new =
    ((first : T) (xs : List (Reply × Instant)) → o.told first old xs → o.told first new xs)
    × ((first : T) (xs : List (Reply × Instant)) (last : Reply × Instant) → o.broken_off first old xs last
    → o.broken_off first new xs last)

-- the result of passing a reply with a disk at an instant: an output with room takes it
abbrev pub IsTold : {T E : Type 0} → Output T → T → T → Reply → Instant → Result Unit E → Type 0
IsTold o old new reply at (Ok _) = TellsOne o old new reply at × (o.room old ≤ o.room new + 1)
IsTold o old new reply at (Err _) = BreaksOff o old new reply at × (o.room old ≡ 0)
