-- What comes of a script that is played over a log. All of it is our own.
use Rattle.std.specs.Prelude.{◌≡◌, ◌⊎◌, List, ℕ, [], IfErr, IsErr, IsOk, OnOk, Option, Result, Some}
use Rattle.d64_image.specs.Images.{Image}
use Rattle.d64_image.specs.Memory.{sectors_in}
use Rattle.host_session.specs.runs.Chains.{told_in}
use Rattle.host_session.specs.shop.Shop.{IsSettled, IsShop, Shop, start_of}
use Rattle.line_server.specs.Scripts.{of_script}
use Rattle.line_server.specs.declared.scripts.ScriptBatches.{ScriptBatches}
use Rattle.line_server.specs.logged.Reporting.{LogOutput}
use Rattle.line_server.specs.logged.Serves.{shop_behind}
use Rattle.request_cards.specs.Ledgers.{replies}
use Rattle.request_cards.specs.declared.reply.Reply.{Reply}
use Rattle.line_text.specs.scripts.Lines.{first_reset, lines}
use Rattle.command_faults.specs.declared.faults.CommandFault.{CommandFault}
use Rattle.image_log.specs.ImageLogs.{LogHistory}
use Rattle.opened_files.specs.Ends.{JobEnd}
use Rattle.shop_jobs.specs.ServiceEnds.{IsRefusedAt}
use Rattle.shop_jobs.specs.LoggedRuns.{IsLoggedRun}
use Rattle.shop_jobs.specs.Replies.{AreAnswered}

-- All messages of a script were played on the shop s of an image, over a log.
pub record IsPlayedWhole {L T : Type 0} (h : LogHistory L) (o : LogOutput L T) (s : Shop) (image script : List ℕ)
    (log after : L) (old new : T) : Type 0 where
  -- each message has its reply, after the messages before it. These were reported in this order, each over a log, and
  -- passed on
  pub turns : List (Reply × L)
  pub told : o.told old new turns
  pub replies_are : told_in turns ≡ replies (start_of s) [] (lines script)
  pub handed : (turns ≡ []) ⊎ o.is_handed_on new
  -- what the log stands for at the end: the shop after all messages, at rest
  pub last : Image
  pub rests : IsSettled last (shop_behind s (lines script))
  pub stands : h.stands_for log (sectors_in image) → h.stands_for after last

-- A script was played so over a log that was `log` and is `after`.
pub record IsLoggedPlay {L T : Type 0} (h : LogHistory L) (o : LogOutput L T) (image script : List ℕ) (log after : L)
    (old new : T) (ended : Result Unit CommandFault) : Type 0 where
  -- its lines were served as those of an input
  pub first : ScriptBatches
  pub left : ScriptBatches
  pub is_first : first.left.now ≡ script
  pub run : IsLoggedRun h of_script o image log after first left old new ended
  -- at Ok all messages were played
  pub whole : IsOk ended → (s : Shop) → IsShop (sectors_in image) s → IsPlayedWhole h o s image script log after old new

-- The job that plays this script over a log ended so. One with a reset is refused for the first line that has one, once the
-- files are open, and nothing is printed. When it is done, a shop's replies to all lines were printed. `Is` says which shop.
pub record IsLoggedPlayEnd {W : Type 0} (contents : W → Option (List ℕ)) (Is : Shop → Type 0) (script : List ℕ) (old new : W)
    (end : JobEnd) : Type 0 where
  pub reset : (n : ℕ) → first_reset (lines script) ≡ Some n → (new ≡ old) × IsErr end × IfErr end (IsRefusedAt n)
  pub done : OnOk end (AreAnswered contents Is (lines script) old new)
