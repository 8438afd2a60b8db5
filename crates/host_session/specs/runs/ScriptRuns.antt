-- The result of a script that is run on a disk. All of it is our own.
use Rattle.std.specs.Prelude.{◌≡◌, ◌⊎◌, ◌++◌, ◌∷◌, ℕ, Err, IfErr, IfOk, List, Result, Some, []}
use Rattle.d64_image.specs.History.{Failed, History, NeverFailed}
use Rattle.request_cards.specs.Ledgers.{plain, replies}
use Rattle.request_cards.specs.declared.reply.Reply.{Reply}
use Rattle.line_text.specs.scripts.Lines.{lines}
use Rattle.line_text.specs.scripts.Resets.{first_bad}
use Rattle.host_session.specs.declared.faults.OpenFault.{OpenFault}
use Rattle.host_session.specs.declared.runs.scripts.ScriptFault.{ScriptFault}
use Rattle.host_session.specs.declared.runs.scripts.ScriptFault.TheVariants as faults
use Rattle.host_session.specs.events.Events.{HasNoReset, Message, messages_of, requests_of}
use Rattle.host_session.specs.events.Instants.{Instant}
use Rattle.host_session.specs.events.Quiet.{AreUncut, AskNothing, IsQuiet}
use Rattle.host_session.specs.events.Telling.{Output}
use Rattle.host_session.specs.events.Within.{AreFew, AreFewWithin, IsBounded, IsSpared}
use Rattle.host_session.specs.runs.Chains.{told_in}
use Rattle.host_session.specs.runs.Loops.{IsToldToDevice, IsToldToOutput, IsToldWhole}
use Rattle.host_session.specs.runs.Runs.{HeldBeginnings, IsPlayedWhole, IsRefused, StoppedByDevice, StoppedByOutput}
use Rattle.host_session.specs.session.Opening.{IsAShop, disk_of}
use Rattle.host_session.specs.shop.Shop.{IsSettled, IsShop, Shop, start_of, with_state}

-- All of these messages were played. Each has its reply, after what counted before it, and the reply was passed with
-- the disk that the message left. The shop is settled.
pub record IsPlayedOut {D T : Type 0} (h : History D) (o : Output T) (s : Shop) (ms : List Message) (disk left : D)
    (old new : T) : Type 0 where
  pub run : IsToldWhole h o s ms disk left old new
  pub played : IsPlayedWhole h s ms disk left (told_in run.turns)
  pub within : AreFewWithin h ms run.turns run.run.first

-- A prefix of the messages was played. Its last reply was broken off. The replies before it were passed, and nothing
-- else.
pub record IsPlayedToOutput {D T : Type 0} (h : History D) (o : Output T) (s : Shop) (ms : List Message) (disk left : D)
    (old new : T) : Type 0 where
  pub begun : List Message
  pub rest : List Message
  pub parts : begun ++ rest ≡ ms
  pub run : IsToldToOutput h o s begun disk left old new
  pub stopped : StoppedByOutput h s ms disk left (told_in (run.turns ++ run.last ∷ []))
  pub within : AreFewWithin h begun (run.turns ++ run.last ∷ []) run.run.first

-- A prefix of the messages was played, and in the last of them the device failed. The replies before the last were
-- passed, and nothing else but the last, or a part of it.
pub record IsPlayedToDevice {D T : Type 0} (h : History D) (o : Output T) (s : Shop) (ms : List Message) (disk left : D)
    (old new : T) : Type 0 where
  pub begun : List Message
  pub rest : List Message
  pub parts : begun ++ rest ≡ ms
  pub run : IsToldToDevice h o s begun disk left old new
  pub stopped : StoppedByDevice h s ms disk left (told_in run.turns ++ run.last ∷ [])
  pub within : AreFewWithin h begun (run.turns ++ (run.last, left) ∷ []) run.run.run.first

-- These replies were passed, each with the disk at an instant, and nothing else.
pub record AreToldSo {T : Type 0} (o : Output T) (old new : T) (told : List Reply) : Type 0 where
  pub turns : List (Reply × Instant)
  pub is : o.told old new turns
  pub replies : told_in turns ≡ told

-- A script was run on a disk over an output that was `old` and is `new`.
pub record IsScriptRun {D T : Type 0} (h : History D) (o : Output T) (disk : D) (script : List ℕ) (old new : T)
    (result : Result D (ScriptFault × D)) : Type 0 where
  -- A bad line is reported exactly if there is one; it is the first, and nothing was done.
  pub bad_line : (n : ℕ) → first_bad (lines script) ≡ Some n → (result ≡ Err (faults.BadLine n, disk)) × (new ≡ old)
  pub good : IfErr result (λ e. (n : ℕ) → e.0 ≡ faults.BadLine n → first_bad (lines script) ≡ Some n)
  -- Only a shop is played.
  pub shop : IfOk result (λ _. IsAShop (h.image disk))
  -- At Ok each line has its reply, after what counted before it. The reply was passed with the disk that the line left,
  -- before the next line was played. The shop is settled.
  pub ok : (s : Shop) → IsShop (h.image disk) s → IfOk result (λ left.
      IsPlayedOut h o s (messages_of (lines script)) disk left old new)
  -- If no line begins with @, each line has its reply after the lines before it, and each counts.
  pub without_resets : (s : Shop) → IsShop (h.image disk) s → HasNoReset (lines script) → IfOk result (λ left.
      AreToldSo o old new (replies (start_of s) [] (lines script))
      × IsSettled (h.image left) (with_state s (plain (start_of s) (requests_of (lines script)))))
  -- The output failed: this holds of the lines played, the last of which has the reply that was broken off.
  pub output : (s : Shop) → IsShop (h.image disk) s → IfErr result (λ e. e.0 ≡ faults.Output
      → IsPlayedToOutput h o s (messages_of (lines script)) disk e.1 old new)
  -- The device failed: it failed in the last line played.
  pub device : (s : Shop) → IsShop (h.image disk) s → IfErr result (λ e. e.0 ≡ faults.Device
      → IsPlayedToDevice h o s (messages_of (lines script)) disk e.1 old new)
  -- At each moment the shop is that of a counted list of a prefix of the lines.
  pub moments : (s : Shop) → IsShop (h.image disk) s
      → HeldBeginnings h s (messages_of (lines script)) disk (disk_of (λ d. d) result)
  -- Lines that ask nothing new leave the disk alone, whatever the result.
  pub quiet : (s : Shop) → IsShop (h.image disk) s → AskNothing s (messages_of (lines script))
      → IsQuiet h s (messages_of (lines script)) disk (disk_of (λ d. d) result)
  -- Nor is more written than by an opening, and nothing on a disk at rest, wherever power fails.
  pub spared : (s : Shop) → IsShop (h.image disk) s → AskNothing s (messages_of (lines script))
      → IsSpared h s disk (disk_of (λ d. d) result)
  -- If power fails in none of the lines, at most 952 sectors were written, and 3618 for each line, whatever the result.
  -- The lines are few, because the count of a mirror, and so of a file, is exact only below 2^64 - 1.
  pub writes : (s : Shop) → IsShop (h.image disk) s → AreFew (messages_of (lines script))
      → AreUncut (messages_of (lines script))
      → IsBounded h (messages_of (lines script)) disk (disk_of (λ d. d) result)
  -- On a shop whose device doesn't fail it answers Ok, unless a line is bad or the output fails.
  pub plays : IsAShop (h.image disk) → NeverFailed h disk (disk_of (λ d. d) result)
      → IfErr result (λ e. ((n : ℕ) × (e.0 ≡ faults.BadLine n)) ⊎ (e.0 ≡ faults.Output))
  -- A refusal by an opening is passed on. The faults of the device and of the output are returned only on a shop, and
  -- the device's only if it failed.
  pub «open» : IfErr result (λ e. (f : OpenFault) → e.0 ≡ faults.Open f → IsRefused h disk f e.1 × (new ≡ old))
  pub cause : IfErr result (λ e. e.0 ≡ faults.Device → IsAShop (h.image disk) × Failed h disk e.1)
  pub after : IfErr result (λ e. e.0 ≡ faults.Output → IsAShop (h.image disk))
