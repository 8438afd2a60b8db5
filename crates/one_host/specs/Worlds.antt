-- What a system has at a moment, and what a power loss may leave of it. Our own.
use Rattle.std.specs.Prelude.{◌≡◌, ◌≤◌, ◌⊎◌, ◌==◌, ℕ, Bool, List, [], ◌∷◌, Option, Some, bytes_eq, if◌then◌else◌, length, slice_get}
use Rattle.one_host.specs.declared.parts.Entry.{Entry}
use Rattle.one_host.specs.declared.parts.Kind.{Kind}
use Rattle.one_host.specs.declared.parts.Lock.{Lock}

-- What stays only once it was synced.
pub record Kept (A : Type 0) : Type 0 where
  -- what programs see
  pub now : A
  -- what it was since the last sync, and at that, the latest first
  pub before : List A
  -- whether a sync of it has failed: then no later one promises anything
  pub in_doubt : Bool

-- a file; one that has no name any more is one, too
pub record File : Type 0 where
  pub kind : Kind
  pub mode : ℕ
  pub bytes : Kept (List ℕ)

-- what a system has at a moment
pub record World : Type 0 where
  -- the files by their numbers, and how many numbers were given so far
  pub files : ℕ → File
  pub used : ℕ
  -- what each path leads to
  pub names : List ℕ → Kept Entry
  -- the locks that this program has
  pub locks : ℕ → Lock
  -- the bytes of standard input that were read, and whether a read has found its end
  pub heard : List ℕ
  pub ended : Bool
  -- what was printed on standard output, and on the standard stream for errors
  pub said : List ℕ
  pub warned : List ℕ
  -- how often somebody else changed a file or a name. Programs that only take locks, or read, don't count
  pub hands : ℕ

-- another file in the place of the one that has this number
abbrev pub set_at : {A : Type 0} → (ℕ → A) → ℕ → A → ℕ → A
set_at f n x m = if m == n then x else f m

-- the same for a name
abbrev pub set_path : {A : Type 0} → (List ℕ → A) → List ℕ → A → List ℕ → A
set_path f p x q = if bytes_eq q p then x else f q

-- What is there after a power loss: the bytes of each file, and what each path leads to.
pub record Left : Type 0 where
  pub bytes : ℕ → List ℕ
  pub names : List ℕ → Entry

-- P holds of what it is, or of one of those that it was
abbrev pub OneOf : {A : Type 0} → (A → Type 0) → A → List A → Type 0
OneOf P now [] = P now
OneOf P now (x ∷ before) = P now ⊎ OneOf P x before

-- A place of a file reads as in these bytes. After their end zeros may have come.
abbrev pub Shows : List ℕ → ℕ → Option ℕ → Type 0
Shows bytes i x = (x ≡ slice_get bytes i) ⊎ ((length bytes ≤ i) × (x ≡ Some 0))

-- Each place is as it is or as it was once since the last sync, on its own: whichever writes reached the disk, in any order,
-- each torn or not. It is no longer than the longest of them.
pub record IsMix (now : List ℕ) (before : List (List ℕ)) (bytes : List ℕ) : Type 0 where
  pub each : (i : ℕ) → OneOf (λ was. Shows was i (slice_get bytes i)) now before
  pub size : OneOf (λ was. length bytes ≤ length was) now before

-- A power loss in this world may leave this. Each name is as it is or as it was once since its folder was synced, on its own.
pub record MayLeave (w : World) (left : Left) : Type 0 where
  pub bytes : (n : ℕ) → IsMix (w.files n).bytes.now (w.files n).bytes.before (left.bytes n)
  pub names : (p : List ℕ) → OneOf (λ was. left.names p ≡ was) (w.names p).now (w.names p).before

-- What others may have done between two calls: those who obey the locks have changed no file and no name. What is this
-- program's own stays in any case.
pub record OthersDid (w v : World) : Type 0 where
  pub count : w.hands ≤ v.hands
  pub obeyed : v.hands ≡ w.hands → v ≡ w
  pub own : v ≡ record w { files = v.files; used = v.used; names = v.names; hands = v.hands }
  pub used : w.used ≤ v.used
