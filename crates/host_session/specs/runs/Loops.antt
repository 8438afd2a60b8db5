-- The result of a run over a source of events and an output. All of it is our own.
use Rattle.std.specs.Prelude.{◌≡◌, ◌≢◌, ◌<◌, ◌≤◌, ◌+◌, ◌⊎◌, List, [], ◌∷◌, ◌++◌, IfErr, IfOk, Ok, Err}
use Rattle.std.specs.Prelude.{Result, false, length}
use Rattle.d64_image.specs.History.{Failed, History, NeverFailed}
use Rattle.request_cards.specs.declared.reply.Reply.{Reply}
use Rattle.host_session.specs.declared.faults.OpenFault.{OpenFault}
use Rattle.host_session.specs.declared.runs.event_loop.LoopFault.{LoopFault}
use Rattle.host_session.specs.declared.runs.event_loop.LoopFault.TheVariants as faults
use Rattle.host_session.specs.declared.runs.event_loop.Stopped.{Stopped}
use Rattle.host_session.specs.declared.runs.event_loop.Stopped.TheVariants as stretches
use Rattle.host_session.specs.events.Asking.{FailsNoMore, GivesWell, Source, messages_in}
use Rattle.host_session.specs.events.Events.{Message}
use Rattle.host_session.specs.events.Instants.{Instant, instant_of}
use Rattle.host_session.specs.events.Quiet.{AreUncut, AskNothing, IsQuiet}
use Rattle.host_session.specs.events.Telling.{Output}
use Rattle.host_session.specs.events.Within.{AreSparing, AreWithin, AreWithinMost, IsBounded, IsSpared}
use Rattle.host_session.specs.runs.Chains.{HasRun, HasRunToFailure, asked_over, over_instants}
use Rattle.host_session.specs.runs.Runs.{HeldBeginnings, IsRefused}
use Rattle.host_session.specs.session.Opening.{IsAShop, disk_of}
use Rattle.host_session.specs.session.Standing.{View}
use Rattle.host_session.specs.shop.Shop.{IsShop, Shop}

-- These messages were run, and each reply was passed with the disk that its message left, before the next message
-- began. The disk at the end is the one that the last reply was passed with, so nothing else was held since. If there
-- is no message, it is as it was opened.
pub record IsToldWhole {D T : Type 0} (h : History D) (o : Output T) (s : Shop) (ms : List Message) (disk left : D)
    (old new : T) : Type 0 where
  pub turns : List (Reply × D)
  pub run : HasRun h s ms turns disk left
  pub told : o.told old new (over_instants h turns)

-- The same of all replies but the last, which was broken off with the disk that is left, and nothing else was passed.
-- An output that has room for all of them takes them.
pub record IsToldToOutput {D T : Type 0} (h : History D) (o : Output T) (s : Shop) (ms : List Message) (disk left : D)
    (old new : T) : Type 0 where
  pub turns : List (Reply × D)
  pub last : Reply × D
  pub run : HasRun h s ms (turns ++ last ∷ []) disk left
  pub told : o.broken_off old new (over_instants h turns) (last.0, instant_of h last.1)
  pub full : o.room old < length ms

-- These messages were run, and in the last of them the device failed. Its reply was passed with what the device then
-- held, or broken off. The replies before it were passed as ever, and nothing else was.
pub record IsToldToDevice {D T : Type 0} (h : History D) (o : Output T) (s : Shop) (ms : List Message) (disk left : D)
    (old new : T) : Type 0 where
  pub turns : List (Reply × D)
  pub last : Reply
  pub run : HasRunToFailure h s ms turns last disk left
  pub told : o.told old new (over_instants h turns ++ (last, instant_of h left) ∷ [])
      ⊎ (o.broken_off old new (over_instants h turns) (last, instant_of h left) × (o.room old < length ms))

-- The same of messages that were taken in this way: the first while the disk was as it was opened, every other while
-- the disk was the one that is listed with the reply passed before. Each in which power didn't fail wrote no more than
-- it can need.
abbrev pub IsRunWhole : {D T : Type 0} → History D → Output T → Shop → List (Message × Instant) → D → D → T → T → Type 0
IsRunWhole h o s taken disk left old new = (x : IsToldWhole h o s (messages_in taken) disk left old new)
    × (taken ≡ asked_over h x.run.first x.turns (messages_in taken))
    × AreWithin h (messages_in taken) x.turns x.run.first
    × AreSparing h (messages_in taken) x.turns x.run.first

-- The same if the output failed at the last reply.
abbrev pub IsRunToOutput : {D T : Type 0} → History D → Output T → Shop → List (Message × Instant) → D → D → T → T
    → Type 0
IsRunToOutput h o s taken disk left old new = (x : IsToldToOutput h o s (messages_in taken) disk left old new)
    × (taken ≡ asked_over h x.run.first x.turns (messages_in taken))
    × AreWithin h (messages_in taken) (x.turns ++ x.last ∷ []) x.run.first
    × AreSparing h (messages_in taken) (x.turns ++ x.last ∷ []) x.run.first

-- The same if the device failed in the last message.
abbrev pub IsRunToDevice : {D T : Type 0} → History D → Output T → Shop → List (Message × Instant) → D → D → T → T
    → Type 0
IsRunToDevice h o s taken disk left old new = (x : IsToldToDevice h o s (messages_in taken) disk left old new)
    × (taken ≡ asked_over h x.run.run.first x.turns (messages_in taken))
    × AreWithin h (messages_in taken) (x.turns ++ (x.last, left) ∷ []) x.run.run.first
    × AreSparing h (messages_in taken) (x.turns ++ (x.last, left) ∷ []) x.run.run.first

-- What a run began with: the shop on its disk, the source and the output.
pub record Origin (D A T : Type 0) : Type 0 where
  pub shop : Shop
  pub disk : D
  pub asks : A
  pub out : T

-- A run is under way: the messages that it took from the source have P, it ran them and passed the replies, and the
-- output had room for as many. They wrote no more than they may.
pub record IsUnderWay {D A T : Type 0} (h : History D) (o : Output T) (from : Origin D A T) (disk : D) (out : T)
    (P : List (Message × Instant) → Type 0) : Type 0 where
  pub taken : List (Message × Instant)
  pub is : P taken
  pub whole : IsRunWhole h o from.shop taken from.disk disk from.out out
  pub room : o.room from.out ≤ o.room out + length (messages_in taken)
  pub wrote : AreWithinMost h (messages_in taken) from.disk disk

-- all that was taken from the source was run and its replies passed, and the source didn't fail
abbrev pub HasCome : {D A T : Type 0} → History D → Source A → Output T → Origin D A T → D → A → T → Type 0
HasCome h a o from disk asks out = IsUnderWay h o from disk out (λ xs. GivesWell a from.asks asks xs)

-- all but the message that was taken last, while the disk was as it is
abbrev pub HasComeBut : {D A T : Type 0} → History D → Source A → Output T → Origin D A T → D → A → T → Type 0
HasComeBut h a o from disk asks out =
    IsUnderWay h o from disk out (λ xs. GivesWell a from.asks asks (xs ++ (a.here asks, instant_of h disk) ∷ []))

-- How a run that was opened ends with this fault; at the fault Input its source failed, and at no other. It wrote no more
-- than its messages may.
abbrev pub EndsBy : {D A T : Type 0} → History D → Source A → Output T → Origin D A T → A → T → D → LoopFault → Type 0
EndsBy h a o from asks out left (faults.Open f) = ⊥
EndsBy h a o from asks out left faults.Input = (taken : List (Message × Instant)) × a.gives from.asks asks taken
    × a.has_failed asks × IsRunWhole h o from.shop taken from.disk left from.out out
    × AreWithinMost h (messages_in taken) from.disk left
EndsBy h a o from asks out left faults.Output = (taken : List (Message × Instant)) × GivesWell a from.asks asks taken
    × IsRunToOutput h o from.shop taken from.disk left from.out out × AreWithinMost h (messages_in taken) from.disk left
EndsBy h a o from asks out left faults.Device = (taken : List (Message × Instant)) × GivesWell a from.asks asks taken
    × IsRunToDevice h o from.shop taken from.disk left from.out out × AreWithinMost h (messages_in taken) from.disk left

-- how a run ends that was opened
abbrev pub Ends : {D A T : Type 0} → History D → Source A → Output T → Origin D A T → A → T → Result D (LoopFault × D)
    → Type 0
Ends h a o from asks out (Ok left) = (taken : List (Message × Instant)) × GivesWell a from.asks asks taken
    × a.is_over asks × IsRunWhole h o from.shop taken from.disk left from.out out
    × AreWithinMost h (messages_in taken) from.disk left
Ends h a o from asks out (Err e) = EndsBy h a o from asks out e.1 e.0

-- the end of a run, with its disk
abbrev pub with_disk : {D : Type 0} → D → Result Unit LoopFault → Result D (LoopFault × D)
with_disk disk (Ok _) = Ok disk
with_disk disk (Err fault) = Err (fault, disk)

-- the result of a stretch of whole messages
abbrev pub IsStretch : {D A T : Type 0} → History D → Source A → Output T → Origin D A T → View D → A → T → Stopped
    → Type 0
IsStretch h a o from session asks out stretches.Cut = (session.dead ≡ false)
    × HasComeBut h a o from session.disk asks out
IsStretch h a o from session asks out (stretches.Ended end) = Ends h a o from asks out (with_disk session.disk end)

-- The result of a run over a source and an output that were `asked` and `old`, and are `asks` and `new`.
pub record IsRun {D A T : Type 0} (h : History D) (a : Source A) (o : Output T) (disk : D) (asked asks : A)
    (old new : T)
    (result : Result D (LoopFault × D)) : Type 0 where
  -- the messages that were taken from the source, each with the disk at an instant, and no others
  pub taken : List (Message × Instant)
  pub takes : a.gives asked asks taken
  -- Only a shop is run, and up to the end of the source.
  pub shop : IfOk result (λ _. IsAShop (h.image disk) × a.is_over asks)
  -- Each event was taken when the one before it was done and its reply passed. It was run, and its reply passed with
  -- the disk that it left.
  pub ok : (s : Shop) → IsShop (h.image disk) s → IfOk result (λ d. IsRunWhole h o s taken disk d old new)
  -- The input failed: the same of the events that it gave.
  pub input : (s : Shop) → IsShop (h.image disk) s → IfErr result (λ e. e.0 ≡ faults.Input
      → a.has_failed asks × IsRunWhole h o s taken disk e.1 old new)
  -- At any other result the source didn't fail.
  pub unfailed : ((left : D) → result ≢ Err (faults.Input, left)) → FailsNoMore a asked asks
  -- The output failed: the last reply was broken off, the replies before it were passed, and nothing else.
  pub output : (s : Shop) → IsShop (h.image disk) s → IfErr result (λ e. e.0 ≡ faults.Output
      → IsRunToOutput h o s taken disk e.1 old new)
  -- The device failed in the last event that was taken. The replies before its own were passed, and nothing else.
  pub device : (s : Shop) → IsShop (h.image disk) s → IfErr result (λ e. e.0 ≡ faults.Device
      → IsRunToDevice h o s taken disk e.1 old new)
  -- At each moment the shop is that of a counted list of a prefix of the events.
  pub moments : (s : Shop) → IsShop (h.image disk) s
      → HeldBeginnings h s (messages_in taken) disk (disk_of (λ d. d) result)
  -- Messages that ask nothing new leave the disk alone, whatever the result.
  pub quiet : (s : Shop) → IsShop (h.image disk) s → AskNothing s (messages_in taken)
      → IsQuiet h s (messages_in taken) disk (disk_of (λ d. d) result)
  -- Nor is more written than by an opening, and nothing on a disk at rest, wherever power fails.
  pub spared : (s : Shop) → IsShop (h.image disk) s → AskNothing s (messages_in taken)
      → IsSpared h s disk (disk_of (λ d. d) result)
  -- If power fails in none of the events, at most 952 sectors were written, and 3618 for each, whatever the result.
  pub writes : (s : Shop) → IsShop (h.image disk) s → AreUncut (messages_in taken)
      → IsBounded h (messages_in taken) disk (disk_of (λ d. d) result)
  -- Wherever power fails, and whatever the result, they wrote no more than they may.
  pub wrote : (s : Shop) → IsShop (h.image disk) s
      → AreWithinMost h (messages_in taken) disk (disk_of (λ d. d) result)
  -- On a shop whose device doesn't fail it answers Ok, unless the input or the output fails.
  pub plays : IsAShop (h.image disk) → NeverFailed h disk (disk_of (λ d. d) result)
      → IfErr result (λ e. (e.0 ≡ faults.Input) ⊎ (e.0 ≡ faults.Output))
  -- A refusal by an opening is passed on, and then nothing was taken and no reply passed.
  pub «open» : IfErr result (λ e. (f : OpenFault) → e.0 ≡ faults.Open f
      → IsRefused h disk f e.1 × (taken ≡ []) × (asks ≡ asked) × (new ≡ old))
  -- The device's fault is returned on a shop, if the device failed; likewise the faults of input and output.
  pub cause : IfErr result (λ e. e.0 ≡ faults.Device → IsAShop (h.image disk) × Failed h disk e.1)
  pub after : IfErr result (λ e. (e.0 ≡ faults.Input) ⊎ (e.0 ≡ faults.Output) → IsAShop (h.image disk))
