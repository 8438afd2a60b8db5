-- Replies that are reported over a log. All of it is our own.
use Rattle.std.specs.Prelude.{◌≡◌, ◌⊎◌, Bool, List, [], ◌∷◌, ◌++◌, Err, None, Ok, Option, Result, Some, map}
use Rattle.std.specs.Prelude.{option_to_list, refl, true}
use Rattle.request_cards.specs.declared.reply.Reply.{Reply}
use Rattle.host_session.specs.events.Instants.{Instant}
use Rattle.host_session.specs.events.Telling.{Output}
use Rattle.host_session.specs.runs.Chains.{told_in}

-- What an output says of the replies that were reported to it, each over a log.
pub record LogOutput (L T : Type 0) : Type 1 where
  -- from the first to the second these replies were reported in this order, each over the log beside it, and no other
  pub told : T → T → List (Reply × L) → Type 0
  -- these replies were reported, each over its log, and then this one in part, not at all, or whole; and no other
  pub broken_off : T → T → List (Reply × L) → Reply × L → Type 0
  -- nothing that was reported is held back
  pub is_handed_on : T → Type 0
  -- whether it may have failed
  pub has_failed : T → Bool
  pub none : (x : T) → told x x []

-- these replies were reported, in this order, and no other; over which disks isn't said
abbrev pub ToldAlone : {L T : Type 0} → Output T → T → T → List (Reply × L) → Type 0
ToldAlone o old new turns = (xs : List (Reply × Instant)) × (told_in xs ≡ told_in turns) × o.told old new xs

-- these were passed on, in this order, and the last one in part at most
abbrev pub BrokenAlone : {L T : Type 0} → Output T → T → T → List (Reply × L) → Reply × L → Type 0
BrokenAlone o old new turns last =
    (xs : List (Reply × Instant)) × (at : Instant) × (told_in xs ≡ told_in turns) × o.broken_off old new xs (last.0, at)

-- what an output says to which replies are passed over no log
abbrev pub of_output : {L T : Type 0} → Output T → LogOutput L T
of_output o = record {
  told = λ old new turns. ToldAlone o old new turns;
  broken_off = λ old new turns last. BrokenAlone o old new turns last;
  is_handed_on = o.is_handed_on;
  has_failed = λ _. true;
  none = λ x. ([], refl, o.none x);
}

-- what reporting a reply over a log came to
abbrev pub IsReported : {L T E : Type 0} → LogOutput L T → T → T → Reply → L → Result Unit E → Type 0
IsReported {L} {T} o old new reply log (Ok _) = (first : T) (xs : List (Reply × L)) → o.told first old xs
    → o.told first new (xs ++ (reply, log) ∷ [])
IsReported {L} {T} o old new reply log (Err _) =
    ((first : T) (xs : List (Reply × L)) → o.told first old xs → o.broken_off first new xs (reply, log))
    × (o.has_failed new ≡ true)

-- what was reported stays reported, and no reply was added
abbrev pub StaysTold : {L T : Type 0} → LogOutput L T → T → T → Type 0
StaysTold {L} {T} o old new = (first : T) (xs : List (Reply × L)) → o.told first old xs → o.told first new xs

-- what handing on came to
abbrev pub HandsOn : {L T E : Type 0} → LogOutput L T → T → T → Result Unit E → Type 0
HandsOn o old new (Ok _) = StaysTold o old new × o.is_handed_on new
HandsOn o old new (Err _) = StaysTold o old new × (o.has_failed new ≡ true)

-- each of these replies over this log
abbrev pub over_log : {L : Type 0} → L → List Reply → List (Reply × L)
over_log log replies = map (λ r. (r, log)) replies

-- these replies were reported whole, and this last one, if there is one, in part, not at all, or whole; and no other
abbrev pub IsToldTo : {L T : Type 0} → LogOutput L T → T → T → List (Reply × L) → Option (Reply × L) → Type 0
IsToldTo o old new turns None = o.told old new turns
IsToldTo o old new turns (Some last) = o.broken_off old new turns last

-- After the replies `before`, the first of these were reported. The last of them may be reported in part, not at all, or
-- whole.
pub record IsCutShort {L T : Type 0} (o : LogOutput L T) (old new : T) (before turns : List (Reply × L)) : Type 0 where
  pub whole : List (Reply × L)
  pub last : Option (Reply × L)
  pub rest : List (Reply × L)
  pub parts : whole ++ (option_to_list last ++ rest) ≡ turns
  pub told : IsToldTo o old new (before ++ whole) last

-- all of these replies were reported after those before, and handed on, unless there is none
abbrev pub ReportsWhole : {L T : Type 0} → LogOutput L T → T → T → List (Reply × L) → Type 0
ReportsWhole {L} {T} o old new turns =
    ((first : T) (xs : List (Reply × L)) → o.told first old xs → o.told first new (xs ++ turns))
    × (((turns ≡ []) × (new ≡ old)) ⊎ o.is_handed_on new)

-- the output failed on the way
abbrev pub ReportsPart : {L T : Type 0} → LogOutput L T → T → T → List (Reply × L) → Type 0
ReportsPart {L} {T} o old new turns =
    ((first : T) (xs : List (Reply × L)) → o.told first old xs → IsCutShort o first new xs turns)
    × (o.has_failed new ≡ true)

-- what reporting replies came to
abbrev pub ReportsAll : {L T E : Type 0} → LogOutput L T → T → T → List (Reply × L) → Result Unit E → Type 0
ReportsAll o old new turns (Ok _) = ReportsWhole o old new turns
ReportsAll o old new turns (Err _) = ReportsPart o old new turns
