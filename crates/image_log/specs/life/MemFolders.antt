-- A folder in memory. Our own.
use Rattle.std.specs.Prelude.{ℕ, ◌+◌, ◌-◌, ◌≡◌, ◌≤◌, Bool, List, None, Option, Some, false, if◌then◌else◌, option_map, true}
use Rattle.std.proofs.Common.{arith, refl, sym}
use Rattle.std.proofs.lemmas.Bool.{false≢true}
use Rattle.image_log.specs.Memory.{memory}
use Rattle.image_log.specs.declared.mem_log.MemLog.{MemLog}
use Rattle.image_log.specs.life.FolderCalls.{began, leaves, left_by, left_last, left_le, left_now, moments, seen_after}
use Rattle.image_log.specs.life.Folders.{Folder, FolderHistory}
use Rattle.image_log.specs.declared.life.mem_folder.FolderCall.{FolderCall}
use Rattle.image_log.specs.declared.life.mem_folder.MemFolder.{MemFolder}

-- what it held at first
abbrev pub first_of : MemFolder → Folder
first_of d = began d.first_image.items (option_map (λ b. b.items) d.first_log)

-- the moments of a file that couldn't be kept when it was closed
abbrev pub lost_moments : Option MemLog → ℕ → ℕ
lost_moments None lent = 0
lost_moments (Some file) lent = 1 + (memory.moment file - lent)

-- what reads return, unless such a file is lost
abbrev pub held_of : Option MemLog → Folder → Option Folder
held_of None s = Some s
held_of (Some file) s = None

-- the moment after these calls; once memory was refused, a later one
abbrev pub moment_of : List FolderCall → Bool → ℕ → ℕ
moment_of calls failed more = moments calls + (if failed then 1 + more else 0)

pub only_last : (first : Folder) (calls : List FolderCall) (failed : Bool) (more : ℕ) (s : Folder)
    → left_by first calls (moment_of calls failed more) s → (failed ≡ false) × leaves first calls s
only_last first calls true more s left =
    let le : moments calls + (1 + more) ≤ moments calls = left_le first calls (moments calls + (1 + more)) s left in
    absurd (omega (arith, le))
only_last first calls false more s left = (refl, left_last first calls (moments calls + 0) s (omega arith) left)

pub now_left : (first : Folder) (calls : List FolderCall) (failed : Bool) (more t : ℕ) (s : Folder)
    → t ≤ moment_of calls failed more → failed ≡ false → leaves first calls s → left_by first calls t s
now_left first calls true more t s le not left = absurd (false≢true (sym not))
now_left first calls false more t s le not left = left_now first calls t s (omega (arith, le)) left

-- It knows all that a power loss may leave, at each moment. Once memory was refused time stops: no power loss comes, and
-- of what it holds nothing is known if that was while a file was closed.
abbrev pub folder_in_memory : FolderHistory MemFolder
folder_in_memory = record {
  held = λ d. held_of d.lost (seen_after (first_of d) d.calls.items);
  may_leave = λ d s. (d.failed ≡ false) × leaves (first_of d) d.calls.items s;
  moment = λ d. moment_of d.calls.items d.failed (lost_moments d.lost d.lent);
  left_since = λ d t s. left_by (first_of d) d.calls.items t s;
  lent = λ d. d.lent;
  has_failed = λ d. d.failed;
  only_now = λ d s left. only_last (first_of d) d.calls.items d.failed (lost_moments d.lost d.lent) s left;
  now = λ d t s le may. now_left (first_of d) d.calls.items d.failed (lost_moments d.lost d.lent) t s le may.0 may.1;
}
