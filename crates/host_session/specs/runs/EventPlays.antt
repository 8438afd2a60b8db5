-- The result of events that are played on a disk. All of it is our own.
use Rattle.std.specs.Prelude.{◌≡◌, ◌≢◌, ◌<◌, ◌+◌, ◌++◌, ℕ, IfErr, IfOk, List, Result, length}
use Rattle.d64_image.specs.History.{Failed, History, NeverFailed}
use Rattle.request_cards.specs.declared.reply.Reply.{Reply}
use Rattle.host_session.specs.declared.faults.OpenFault.{OpenFault}
use Rattle.host_session.specs.declared.runs.plays.PlayFault.{PlayFault}
use Rattle.host_session.specs.declared.runs.plays.PlayFault.TheVariants as faults
use Rattle.host_session.specs.events.Events.{Message}
use Rattle.host_session.specs.events.Quiet.{AreUncut, AskNothing, IsQuiet}
use Rattle.host_session.specs.events.Within.{AreWithinMost, IsBounded, IsSpared}
use Rattle.host_session.specs.runs.Runs.{HeldBeginnings, IsPlayedWhole, IsRefused, StoppedByDevice}
use Rattle.host_session.specs.session.Opening.{IsAShop, disk_of}
use Rattle.host_session.specs.shop.Shop.{IsShop, Shop}

-- The messages were played on a disk, and their replies appended to the old ones, in a list with this room.
pub record PlaysEvents {D : Type 0} (h : History D) (ms : List Message) (disk : D) (room : ℕ) (old new : List Reply)
    (result : Result D (PlayFault × D)) : Type 0 where
  -- Only a shop is played.
  pub shop : IfOk result (λ _. IsAShop (h.image disk))
  -- At Ok each message has its reply, over what counted before it, and the shop is settled.
  pub ok : (s : Shop) → IsShop (h.image disk) s → IfOk result (λ left.
      (told : List Reply) × (new ≡ old ++ told) × IsPlayedWhole h s ms disk left told)
  -- The device failed: this holds of the messages replied to, and it failed in the last of them. They wrote no more than
  -- they may, wherever power fails.
  pub device : (s : Shop) → IsShop (h.image disk) s → IfErr result (λ e. e.0 ≡ faults.Device
      → (told : List Reply) × (new ≡ old ++ told) × (p : StoppedByDevice h s ms disk e.1 told)
      × AreWithinMost h p.begun disk e.1)
  -- At each moment the shop is that of a counted list of a prefix of the messages.
  pub moments : (s : Shop) → IsShop (h.image disk) s → HeldBeginnings h s ms disk (disk_of (λ d. d) result)
  -- Messages that ask nothing new leave the disk alone, whatever the result.
  pub quiet : (s : Shop) → IsShop (h.image disk) s → AskNothing s ms
      → IsQuiet h s ms disk (disk_of (λ d. d) result)
  -- Nor is more written than by an opening, and nothing on a disk at rest, wherever power fails.
  pub spared : (s : Shop) → IsShop (h.image disk) s → AskNothing s ms → IsSpared h s disk (disk_of (λ d. d) result)
  -- If power fails in none of them, at most 952 sectors were written, and 3618 for each, whatever the result.
  pub writes : (s : Shop) → IsShop (h.image disk) s → AreUncut ms → IsBounded h ms disk (disk_of (λ d. d) result)
  -- If power fails in none of them and the result is Ok, no call of the device failed.
  pub unfailed : AreUncut ms → IfOk result (λ left. h.failures left ≡ h.failures disk)
  -- On a shop whose device doesn't fail it answers Ok, unless memory ran out.
  pub plays : IsAShop (h.image disk) → NeverFailed h disk (disk_of (λ d. d) result)
      → IfErr result (λ e. e.0 ≡ faults.NoMemory)
  -- A refusal by an opening is passed on. The device's fault is returned on a shop, if the device failed.
  pub «open» : IfErr result (λ e. (f : OpenFault) → e.0 ≡ faults.Open f → IsRefused h disk f e.1)
  pub cause : IfErr result (λ e. e.0 ≡ faults.Device → IsAShop (h.image disk) × Failed h disk e.1)
  -- Memory runs out before anything is done, and only if the list had to grow.
  pub memory : IfErr result (λ e. e.0 ≡ faults.NoMemory → (e.1 ≡ disk) × (room < length old + length ms))
  -- At any fault but Device no reply is added.
  pub silent : IfErr result (λ e. e.0 ≢ faults.Device → new ≡ old)
