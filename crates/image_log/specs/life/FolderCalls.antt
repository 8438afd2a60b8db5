-- Calls on a folder in memory, and what a power loss leaves after them. Our own.
use Rattle.std.specs.Prelude.{ℕ, ◌+◌, ◌-◌, ◌≡◌, ◌≤◌, ◌⊎◌, Bool, List, [], ◌∷◌, None, Option, false, if◌then◌else◌, true}
use Rattle.std.proofs.Common.{arith, inl, inr}
use Rattle.d64_image.specs.Images.{Image}
use Rattle.image_log.specs.Memory.{mem_bytes, memory}
use Rattle.image_log.specs.life.Folders.{Folder, HasImage, HasNames, IsImageWritten, IsMaking, IsNaming, IsRemoving, being_made, named, unlogged, with_log, with_sector}
use Rattle.image_log.specs.life.Folders.Making.{Missing}
use Rattle.image_log.specs.declared.life.mem_folder.FolderCall.{FolderCall}
use Rattle.image_log.specs.declared.life.mem_folder.FolderCall.TheVariants.{Make, Name, Remove, Return, SyncImage, SyncNames, Write}

-- a folder with this image and log, and no log in the making
abbrev pub began : Image → Option (List ℕ) → Folder
began image log = record { image = image; log = log; making = Missing }

-- what a call makes of what reads return
abbrev pub effect : FolderCall → Folder → Folder
effect (Write index bytes) s = with_sector index bytes s
effect SyncImage s = s
effect Make s = being_made s
effect (Name bytes) s = named bytes.items s
effect Remove s = unlogged s
effect SyncNames s = s
effect (Return lent file) s = with_log (mem_bytes file) s

-- what reads return after these calls, of which the newest comes first
abbrev pub seen_after : Folder → List FolderCall → Folder
seen_after first [] = first
seen_after first (call ∷ earlier) = effect call (seen_after first earlier)

-- what a power loss may leave after a call, from what one might have left before; reads returned `seen` then
abbrev pub step : FolderCall → Folder → Folder → Folder → Type 0
step (Write index bytes) seen from s = IsImageWritten index bytes from s
step SyncImage seen from s = (s ≡ from) × HasImage seen s
step Make seen from s = IsMaking from s
step (Name bytes) seen from s = IsNaming bytes.items from s
step Remove seen from s = IsRemoving from s
step SyncNames seen from s = (s ≡ from) × HasNames seen s
step (Return lent file) seen from s =
    ((s ≡ from) × (from.log ≡ None)) ⊎ ((c : List ℕ) × memory.may_leave file c × (s ≡ with_log c from))

-- what it may leave after them
abbrev pub leaves : Folder → List FolderCall → Folder → Type 0
leaves first [] s = s ≡ first
leaves first (call ∷ earlier) s = (from : Folder) × leaves first earlier from × step call (seen_after first earlier) from s

-- how many moments a call takes before its end: of a file that was lent, its own and one more
abbrev pub waits : FolderCall → ℕ
waits (Return lent file) = 1 + (memory.moment file - lent)
waits call = 0

-- how many moments these calls take
abbrev pub moments : List FolderCall → ℕ
moments [] = 0
moments (call ∷ earlier) = moments earlier + waits call + 1

-- what a power loss might have left while a file was lent, from the moment t on
abbrev pub lent_left : Folder → FolderCall → List FolderCall → ℕ → Folder → Type 0
lent_left first (Return lent file) earlier t s = (from : Folder) × leaves first earlier from
    × (c : List ℕ) × memory.left_since file (lent + (t - (moments earlier + 1))) c × (s ≡ with_log c from)
lent_left first call earlier t s = ⊥

-- what it might have left from the moment t on
abbrev pub left_by : Folder → List FolderCall → ℕ → Folder → Type 0
left_by first [] t s = (t ≤ 0) × (s ≡ first)
left_by first (call ∷ earlier) t s = left_by first earlier t s
    ⊎ ((t ≤ moments earlier + waits call) × lent_left first call earlier t s)
    ⊎ ((t ≤ moments earlier + waits call + 1) × leaves first (call ∷ earlier) s)

pub left_le : (first : Folder) (calls : List FolderCall) (t : ℕ) (s : Folder) → left_by first calls t s → t ≤ moments calls
left_le first [] t s left = left.0
left_le first (call ∷ earlier) t s (inl before) =
    let le : t ≤ moments earlier = left_le first earlier t s before in omega (arith, le)
left_le first (call ∷ earlier) t s (inr (inl lent)) = omega (arith, lent.0)
left_le first (call ∷ earlier) t s (inr (inr now)) = now.0

pub left_last : (first : Folder) (calls : List FolderCall) (t : ℕ) (s : Folder) → moments calls ≤ t → left_by first calls t s
    → leaves first calls s
left_last first [] t s late left = left.1
left_last first (call ∷ earlier) t s late (inl before) =
    let le : t ≤ moments earlier = left_le first earlier t s before in absurd (omega (arith, late, le))
left_last first (call ∷ earlier) t s late (inr (inl lent)) = absurd (omega (arith, late, lent.0))
left_last first (call ∷ earlier) t s late (inr (inr now)) = now.1

pub left_now : (first : Folder) (calls : List FolderCall) (t : ℕ) (s : Folder) → t ≤ moments calls → leaves first calls s
    → left_by first calls t s
left_now first [] t s le left = (le, left)
left_now first (call ∷ earlier) t s le left = inr (inr (le, left))

-- no file failed that was closed
abbrev pub none_failed : List FolderCall → Bool
none_failed [] = true
none_failed (Return lent file ∷ earlier) = if memory.has_failed file then false else none_failed earlier
none_failed (call ∷ earlier) = none_failed earlier
