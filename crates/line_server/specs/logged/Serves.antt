-- What comes of a shop that is served over a log, batch by batch. All of it is our own.
use Rattle.std.specs.Prelude.{◌≡◌, ◌⊎◌, ◌≤◌, ◌+◌, ℕ, List, [], ◌∷◌, ◌++◌, Err, IfErr, IfOk, None, Ok, OnSome, Option, Result}
use Rattle.std.specs.Prelude.{length, option_to_list, true}
use Rattle.std.specs.Io.KnownBytes.{Consumes, IsAtEnd}
use Rattle.d64_image.specs.Images.{Image}
use Rattle.d64_image.specs.Memory.{disk_image}
use Rattle.d64_image.specs.declared.mem_disk.MemDisk.{MemDisk}
use Rattle.disk_layout.specs.Whole.{IsWhole}
use Rattle.request_cards.specs.Ledgers.{plain, replies}
use Rattle.request_cards.specs.declared.reply.Reply.{Reply}
use Rattle.line_text.specs.scripts.Lines.{lines}
use Rattle.host_session.specs.declared.faults.OpenFault.{OpenFault}
use Rattle.host_session.specs.declared.runs.event_loop.LoopFault.{LoopFault}
use Rattle.host_session.specs.declared.runs.event_loop.LoopFault.TheVariants as faults
use Rattle.host_session.specs.events.Events.{requests_of}
use Rattle.host_session.specs.runs.Chains.{told_in}
use Rattle.host_session.specs.session.Opening.{IsAShop, Refuses}
use Rattle.host_session.specs.shop.Shop.{IsSettled, IsShop, Shop, start_of, with_state}
use Rattle.line_server.specs.Batches.{BatchInput}
use Rattle.line_server.specs.Read.{AreWhole, LacksLf}
use Rattle.image_log.specs.ImageLogs.{LeavesImages, LogHistory}
use Rattle.line_server.specs.logged.Handling.{AskNone}
use Rattle.line_server.specs.logged.Reporting.{IsToldTo, LogOutput}

-- the shop after these lines
abbrev pub shop_behind : Shop → List (List ℕ) → Shop
shop_behind s ls = with_state s (plain (start_of s) (requests_of ls))

-- The image is a shop's at rest: that of some first lines, of which there are so many at least.
pub record HoldsFirst (s : Shop) (ls : List (List ℕ)) (n : ℕ) (image : Image) : Type 0 where
  pub front : List (List ℕ)
  pub rest : List (List ℕ)
  pub parts : front ++ rest ≡ ls
  pub least : n ≤ length front
  pub rests : IsSettled image (shop_behind s front)

-- these are the first of those replies, and of one batch at most none is among them
abbrev pub AreFirst : List Reply → List Reply → Type 0
AreFirst told all = (untold : List Reply) × (told ++ untold ≡ all) × (length untold ≤ 512)

-- all lines that were read were handled and their replies reported: it ended well, or the input failed
abbrev pub IsOver : Result MemDisk (LoopFault × MemDisk) → Type 0
IsOver (Ok _) = Unit {0}
IsOver (Err e) = e.0 ≡ faults.Input

-- since each of these replies was reported, the first of them to line k, a power loss leaves the shop of first lines with
-- that line among them
abbrev pub StayFrom : {L : Type 0} → LogHistory L → Shop → List (List ℕ) → ℕ → List (Reply × L) → L → Type 0
StayFrom h s ls k [] now = Unit {0}
StayFrom h s ls k (x ∷ xs) now = LeavesImages h x.1 now (HoldsFirst s ls (k + 1)) × StayFrom h s ls (k + 1) xs now

-- the shop of a disk that holds this image was served so, over a log that stood for it
pub record IsSafe {L : Type 0} (h : LogHistory L) (s : Shop) (image : Image) (ls : List (List ℕ))
    (turns : List (Reply × L)) (old new : L) : Type 0 where
  -- a power loss at any moment leaves the image as it was, or the shop of some first lines, at rest
  pub any_moment : LeavesImages h old new (λ c. (c ≡ image) ⊎ HoldsFirst s ls 0 c)
  -- if all files are whole in the image as it was, they are in each that a power loss leaves
  pub files : IsWhole image → LeavesImages h old new IsWhole
  -- and since a line's reply was reported, it leaves the shop of first lines with this one among them
  pub told_stays : StayFrom h s ls 0 turns new

-- the disk that is returned has P, unless it wasn't opened or the log failed
abbrev pub IfKept : Result MemDisk (LoopFault × MemDisk) → (MemDisk → Type 0) → Type 0
IfKept (Ok d) P = P d
IfKept (Err e) P = (e.0 ≡ faults.Input) ⊎ (e.0 ≡ faults.Output) → P e.1

-- The shop of a disk was served over a log, an input and an output, that were `old`, `old_in` and `old_out`.
pub record IsServedOver {L R T : Type 0} (h : LogHistory L) (i : BatchInput R) (o : LogOutput L T) (disk : MemDisk)
    (old new : L) (old_in new_in : R) (old_out new_out : T)
    (result : Result MemDisk (LoopFault × MemDisk)) : Type 0 where
  -- the lines that were handled, each with its LF, and what was read after them, which is no line
  pub handled : List ℕ
  pub rest : List ℕ
  pub whole : AreWhole handled
  pub lacks : LacksLf rest
  pub read : Consumes (i.remaining old_in) (i.remaining new_in) (handled ++ rest)
  -- each reply that was reported, and the log over which it was; and the one that the output broke off
  pub turns : List (Reply × L)
  pub last : Option (Reply × L)
  pub told : IsToldTo o old_out new_out turns last
  -- they are the replies to the first lines, and all but one batch
  pub replies_are : (s : Shop) → IsShop (disk_image disk) s
      → AreFirst (told_in (turns ++ option_to_list last)) (replies (start_of s) [] (lines handled))
  pub safe : (s : Shop) → IsShop (disk_image disk) s → h.stands_for old (disk_image disk)
      → IsSafe h s (disk_image disk) (lines handled) (turns ++ option_to_list last) old new
  -- At Ok, and if the input failed, each line's reply was reported, and handed on.
  pub all : IsOver result → (last ≡ None) × (length turns ≡ length (lines handled))
  pub handed : IsOver result → (turns ≡ []) ⊎ o.is_handed_on new_out
  -- At Ok, and if the input or the output failed, the log stands for the disk that is returned, a shop's at rest after all lines.
  pub rests : (s : Shop) → IsShop (disk_image disk) s → IfKept result (λ d.
      IsSettled (disk_image d) (shop_behind s (lines handled))
      × (h.stands_for old (disk_image disk) → h.stands_for new (disk_image d)))
  -- If all files were whole, they are in that disk.
  pub files : IsWhole (disk_image disk) → IfOk result (λ d. IsWhole (disk_image d))
  pub shop : IfOk result (λ _. IsAShop (disk_image disk))
  pub end : IfOk result (λ _. OnSome (i.remaining old_in) (IsAtEnd (i.remaining new_in)))
  -- If the shop was at rest, lines that ask nothing new ask nothing of the log's files.
  pub quiet : (s : Shop) → IsSettled (disk_image disk) s → AskNone s (lines handled) → new ≡ old
  -- A refusal of the opening is returned: the fault holds, and none that is checked before it. Then nothing was read,
  -- written or reported.
  pub «open» : IfErr result (λ e. (f : OpenFault) → e.0 ≡ faults.Open f
      → (IsAShop (disk_image disk) → ⊥) × Refuses ⊥ (disk_image disk) f × (disk_image e.1 ≡ disk_image disk)
      × (new ≡ old) × (new_in ≡ old_in) × (new_out ≡ old_out))
  -- `Input` is returned only if the input failed, or gave 2^64 - 1 lines.
  pub input : IfErr result (λ e. e.0 ≡ faults.Input
      → (i.has_failed new_in ≡ true) ⊎ (18446744073709551615 ≤ length (lines handled)))
  -- `Device` is returned only if the log takes no more commits, and `Output` only if the output failed.
  pub device : IfErr result (λ e. e.0 ≡ faults.Device → h.is_over new ≡ true)
  pub output : IfErr result (λ e. e.0 ≡ faults.Output → o.has_failed new_out ≡ true)
