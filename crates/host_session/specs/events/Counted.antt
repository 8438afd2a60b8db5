-- Which requests of a run with resets count, and the reply to each message. The requests that count are kept in parts,
-- one for each message: a list of one request or none. All of it is our own.
use Rattle.std.specs.Prelude.{◌≡◌, ℕ, zero, suc, ◌&&◌, ◌⊎◌, Bool, true, false, List, [], ◌∷◌, ◌++◌, Option, Some, None}
use Rattle.std.specs.Prelude.{IsSome, is_some, nat_lt, if◌then◌else◌, flat_map, fold, MatchBool}
use Rattle.request_cards.specs.declared.reply.Reply.{Reply}
use Rattle.request_cards.specs.declared.reply.Reply.TheVariants.{Cut}
use Rattle.request_cards.specs.Requests.{Ask}
use Rattle.request_cards.specs.Ledgers.{State, Start, plain, reply_in, after}
use Rattle.request_cards.specs.Reading.{request_of}
use Rattle.host_session.specs.events.Events.{Message}
use Rattle.host_session.specs.session.Handling.{is_first_set, media}

-- the request counts
abbrev pub IsIn : Ask → List Ask → Type 0
IsIn a counted = counted ≡ a ∷ []

-- the request counts, or it doesn't
abbrev pub MayBeIn : Ask → List Ask → Type 0
MayBeIn a counted = IsIn a counted ⊎ (counted ≡ [])

-- What a request counts as. It counts if it was answered. It doesn't if power failed before its first write. It does if
-- power failed later, but a first set may be in or out up to the last write that it can make. If the device failed in
-- it, it may be in or out. 3619 is past all writes of a message, which writes at most 3618 sectors.
abbrev pub Counts : ℕ → State → Ask → Option ℕ → Bool → List Ask → Type 0
Counts top state a None false counted = IsIn a counted
Counts top state a None true counted = MayBeIn a counted
Counts top state a (Some zero) failed counted = counted ≡ []
Counts top state a (Some (suc n)) true counted = MayBeIn a counted
Counts top state a (Some (suc n)) false counted =
    MatchBool (is_first_set state top a && nat_lt (suc n) 3619) (MayBeIn a counted) (IsIn a counted)

-- the same of a message: what lies outside the grammar counts nowhere
abbrev pub MayCount : ℕ → State → Option Ask → Option ℕ → Bool → List Ask → Type 0
MayCount top state None cut_after failed counted = counted ≡ []
MayCount top state (Some a) cut_after failed counted = Counts top state a cut_after failed counted

-- Each of these parts is what its message may count, after the requests counted before it. The flags say for each
-- message whether the device failed in it.
abbrev pub IsCounted : Start → List Ask → List Message → List Bool → List (List Ask) → Type 0
IsCounted start before [] [] [] = Unit {0}
IsCounted start before (m ∷ ms) (f ∷ fs) (c ∷ cs) =
    MayCount start.top (plain start before) (request_of m.bytes) m.cut_after f c
    × IsCounted start (before ++ c) ms fs cs
IsCounted start before _ _ _ = ⊥

-- the requests counted, in order
abbrev pub all_of : List (List Ask) → List Ask
all_of parts = flat_map (λ c. c) parts

-- the state after the requests of a part
abbrev pub after_all : Start → State → List Ask → State
after_all start state counted = fold (after start) state counted

-- the reply to a message in this state: CUT if power failed in it, MEDIA if the device failed in it
abbrev pub answer : Start → State → Message → Bool → Reply
answer start state m failed = if is_some m.cut_after then Cut
    else (if failed then media (request_of m.bytes) else reply_in start state (request_of m.bytes))

-- the reply to each message, over the requests counted before it
abbrev pub answers : Start → List Ask → List Message → List Bool → List (List Ask) → List Reply
answers start before [] fs cs = []
answers start before (m ∷ ms) [] cs = []
answers start before (m ∷ ms) (f ∷ fs) [] = []
answers start before (m ∷ ms) (f ∷ fs) (c ∷ cs) =
    answer start (plain start before) m f ∷ answers start (before ++ c) ms fs cs

-- each message without a reset was answered
abbrev pub NoneGotMedia : List Message → List Bool → Type 0
NoneGotMedia [] [] = Unit {0}
NoneGotMedia (m ∷ ms) (f ∷ fs) = (m.cut_after ≡ None → f ≡ false) × NoneGotMedia ms fs
NoneGotMedia _ _ = ⊥

-- In the last of these messages the device failed: its reply is MEDIA, or power failed in it. Each one before it
-- without a reset was answered.
pub record FailsAtLast (messages : List Message) (fails : List Bool) : Type 0 where
  pub before : List Message
  pub last : Message
  pub answered : List Bool
  pub messages_are : messages ≡ before ++ last ∷ []
  pub fails_are : fails ≡ answered ++ true ∷ []
  pub whole : NoneGotMedia before answered
  -- only a request has the reply MEDIA
  pub asked : last.cut_after ≡ None → IsSome (request_of last.bytes)
