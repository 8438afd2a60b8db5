-- A batch of lines that is served, and the way to it. All of it is our own.
use Rattle.std.specs.Prelude.{◌≡◌, ◌⊎◌, List, ℕ, [], ◌++◌, Err, Ok, Result, true}
use Rattle.std.specs.Io.KnownBytes.{Consumes}
use Rattle.d64_image.specs.Images.{Image}
use Rattle.d64_image.specs.Memory.{disk_image}
use Rattle.d64_image.specs.declared.mem_disk.MemDisk.{MemDisk}
use Rattle.disk_layout.specs.Whole.{IsWhole}
use Rattle.request_cards.specs.Ledgers.{replies}
use Rattle.request_cards.specs.declared.reply.Reply.{Reply}
use Rattle.line_text.specs.scripts.Lines.{lines}
use Rattle.host_session.specs.declared.runs.event_loop.LoopFault.{LoopFault}
use Rattle.host_session.specs.declared.runs.event_loop.LoopFault.TheVariants as faults
use Rattle.host_session.specs.runs.Chains.{told_in}
use Rattle.host_session.specs.runs.Loops.{with_disk}
use Rattle.host_session.specs.session.Opening.{IsAShop}
use Rattle.host_session.specs.session.Standing.{View}
use Rattle.host_session.specs.shop.Shop.{IsSettled, IsShop, Shop, start_of}
use Rattle.line_server.specs.Batches.{BatchInput}
use Rattle.line_server.specs.Read.{AreWhole, LacksLf}
use Rattle.image_log.specs.ImageLogs.{IsEither, LeavesImages, LogHistory}
use Rattle.image_log.specs.Marks.{Covers}
use Rattle.image_log.specs.Touched.{touched_of}
use Rattle.line_server.specs.logged.Handling.{AreHandled, AskNone, IsAtRest}
use Rattle.line_server.specs.logged.Memory.{Memory, image_of}
use Rattle.line_server.specs.logged.Reporting.{LogOutput, ReportsPart, ReportsWhole, over_log}
use Rattle.line_server.specs.logged.Serves.{IsSafe, IsServedOver, shop_behind}

-- the disk is the image that was committed last, and the log stands for it
abbrev pub IsKeptNow : {L : Type 0} → LogHistory L → Memory → (before kept : Image) → L → L → Type 0
IsKeptNow h disk before kept log now = Covers (touched_of disk) before (image_of disk)
    → (kept ≡ image_of disk) × (h.stands_for log before → h.stands_for now (image_of disk))

-- how a batch ends
abbrev pub BatchEnds : {L T : Type 0} → LogHistory L → LogOutput L T → Memory → (before kept : Image) → L → L → T → T
    → List Reply → Result Unit LoopFault → Type 0
BatchEnds h o disk before kept log now out told replies (Ok _) =
    IsKeptNow h disk before kept log now × ReportsWhole o out told (over_log now replies)
BatchEnds h o disk before kept log now out told replies (Err faults.Output) =
    IsKeptNow h disk before kept log now × ReportsPart o out told (over_log now replies)
BatchEnds h o disk before kept log now out told replies (Err faults.Device) = (told ≡ out) × (h.is_over now ≡ true)
BatchEnds h o disk before kept log now out told replies (Err _) = ⊥

-- A batch of lines was handled over memory and committed to a log that stood for the image `before`. Then its replies
-- were reported.
pub record IsBatchServed {L T : Type 0} (h : LogHistory L) (o : LogOutput L T) (ls : List (List ℕ))
    (old new : View Memory) (before kept : Image) (log now : L) (out told : T)
    (result : Result Unit LoopFault) : Type 0 where
  pub replies : List Reply
  pub handled : AreHandled old new ls replies
  pub any_moment : h.stands_for log before → Covers (touched_of new.disk) before (image_of new.disk)
      → LeavesImages h log now (IsEither before (image_of new.disk))
  pub quiet : before ≡ image_of new.disk → now ≡ log
  pub ends : BatchEnds h o new.disk before kept log now out told replies result

-- A session was opened over this disk, of which a copy was kept, in memory.
pub record HasOpened (disk : MemDisk) (session : View Memory) (kept : Image) : Type 0 where
  pub kept_is : kept ≡ disk_image disk
  pub shop : IsAShop (disk_image disk)
  pub rests : (s : Shop) → IsShop (disk_image disk) s → IsAtRest session s
  pub covers : Covers (touched_of session.disk) (disk_image disk) (image_of session.disk)
  -- if all files of the disk are whole, they stay so
  pub files : IsWhole (disk_image disk) → IsWhole (image_of session.disk)
  pub quiet : (s : Shop) → IsSettled (disk_image disk) s → disk_image disk ≡ image_of session.disk

-- What holds of a shop whose lines were all served over a log.
pub record Holds {L : Type 0} (h : LogHistory L) (s : Shop) (image : Image) (ls : List (List ℕ))
    (turns : List (Reply × L)) (old now : L) (session : View Memory) : Type 0 where
  pub rests : IsAtRest session (shop_behind s ls)
  pub replies_are : told_in turns ≡ replies (start_of s) [] ls
  pub stands : h.stands_for old image → h.stands_for now (image_of session.disk)
  pub safe : h.stands_for old image → IsSafe h s image ls turns old now
  pub files : IsWhole image → IsWhole (image_of session.disk)

-- Serving is under way: the lines up to here were served. What was read after them is no line.
pub record IsUnderWay {L R T : Type 0} (h : LogHistory L) (i : BatchInput R) (o : LogOutput L T) (disk : MemDisk)
    (old : L) (old_in : R) (old_out : T) (rest : List ℕ) (session : View Memory) (kept : Image) (now : L) (input : R)
    (out : T) : Type 0 where
  pub handled : List ℕ
  pub whole : AreWhole handled
  pub lacks : LacksLf rest
  pub read : Consumes (i.remaining old_in) (i.remaining input) (handled ++ rest)
  pub turns : List (Reply × L)
  pub told : o.told old_out out turns
  pub handed : (turns ≡ []) ⊎ o.is_handed_on out
  pub kept_is : kept ≡ image_of session.disk
  pub shop : IsAShop (disk_image disk)
  pub holds : (s : Shop) → IsShop (disk_image disk) s → Holds h s (disk_image disk) (lines handled) turns old now session
  pub quiet : (s : Shop) → IsSettled (disk_image disk) s → AskNone s (lines handled)
      → (now ≡ old) × (disk_image disk ≡ image_of session.disk)

-- each disk that holds what the session's disk does was served so
abbrev pub IsServedSo : {L R T : Type 0} → LogHistory L → BatchInput R → LogOutput L T → MemDisk → L → L → R → R → T → T
    → View Memory → Result Unit LoopFault → Type 0
IsServedSo h i o disk old new old_in new_in old_out new_out session result =
    (left : MemDisk) → disk_image left ≡ image_of session.disk
    → IsServedOver h i o disk old new old_in new_in old_out new_out (with_disk left result)
