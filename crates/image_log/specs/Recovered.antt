-- What a log's bytes stand for, and a log at rest. Our own.
use Rattle.std.specs.Prelude.{ℕ, ◌+◌, ◌*◌, ◌==◌, ◌&&◌, ◌≡◌, ◌≤◌, ◌<◌, ◌⊎◌, Bool, List, length, not, replicate}
use Rattle.std.specs.Prelude.{IsTrue, Some, false, slice_index}
use Rattle.d64_image.specs.Images.{Image}
use Rattle.image_log.specs.Blocks.{IsBlank, block_at, committed, first_commit, is_last, is_whole, replayed, whole_from}
use Rattle.image_log.specs.Files.{FileHistory, IsBlend, Only, Rests}

-- 683 sectors of zeros, which the base replaces
abbrev pub blank : Image
blank = replicate 683 (replicate 256 0)

-- how many blocks are whole, up to the first that isn't
abbrev pub whole_blocks : List ℕ → ℕ
whole_blocks f = whole_from (block_at f) 0 1024

-- how many blocks its whole commits take
abbrev pub commits_end : List ℕ → ℕ
commits_end f = committed (block_at f) (whole_blocks f)

-- the image that the file's whole commits stand for
abbrev pub recovered : List ℕ → Image
recovered f = replayed (block_at f) blank (commits_end f)

-- Block q may be a part of one commit that was torn and begins at block `end`. It is one of the 46 blocks that a commit may
-- have, and no whole block of them before it ends the commit. These blocks may hold any other bytes.
pub record MayBeTorn (f : List ℕ) (end q : ℕ) : Type 0 where
  pub near : q < end + 46
  pub unended : (p : ℕ) → end ≤ p → p < q → is_whole p (block_at f p) && is_last (block_at f p) ≡ false

-- One torn commit is all that stands after the first `end` blocks, if anything does.
abbrev pub EndsTorn : List ℕ → ℕ → Type 0
EndsTorn f end = (q : ℕ) → end ≤ q → q < 1024 → IsBlank (block_at f q) ⊎ MayBeTorn f end q

-- how many blocks the base takes, which is the first commit; 0 if the file has none
abbrev pub base_end : List ℕ → ℕ
base_end f = first_commit (block_at f) (whole_blocks f)

-- the image that the log began with
abbrev pub base_of : List ℕ → Image
base_of f = replayed (block_at f) blank (base_end f)

-- the first byte after the blocks isn't 0: the image is being copied into its own file
abbrev pub is_marked : List ℕ → Bool
is_marked f = not (slice_index f 4194304 == 0)

-- A log's bytes: the first `end` blocks are whole, the last of them ends a commit, and the rest is zeros.
pub record IsLog (f : List ℕ) (end : ℕ) : Type 0 where
  pub size : length f ≡ 4198400
  pub within : end ≤ 1024
  pub whole : (q : ℕ) → q < end → IsTrue (is_whole q (block_at f q))
  pub ended : committed (block_at f) end ≡ end
  pub zeros : (i : ℕ) → 4096 * end ≤ i → slice_index f i ≡ 0

-- If the file's bytes are known they are a log's, and a power loss leaves them.
pub record IsAtRest {F : Type 0} (h : FileHistory F) (file : F) (end : ℕ) : Type 0 where
  pub log : (f : List ℕ) → h.held file ≡ Some f → IsLog f end
  pub based : (f : List ℕ) → h.held file ≡ Some f → 0 < first_commit (block_at f) end
  pub durable : (f : List ℕ) → h.held file ≡ Some f → Only f (h.may_leave file)

-- After a power loss: a log with this base that stands for one of two images.
pub record IsLeft (start before after : Image) (f : List ℕ) : Type 0 where
  pub size : length f ≡ 4198400
  pub based : 0 < base_end f
  pub base : base_of f ≡ start
  pub image : (recovered f ≡ before) ⊎ (recovered f ≡ after)
  pub ends : EndsTorn f (commits_end f)

-- What a power loss may leave while a commit is written after the log f.
pub record IsTorn (f : List ℕ) (end : ℕ) (after : Image) (c : List ℕ) : Type 0 where
  pub left : 0 < first_commit (block_at f) end → IsLeft (base_of f) (recovered f) after c
  pub unmarked : is_marked c ≡ false

-- A commit of n blocks stands after the log f, and the file rests: its bytes, and what they stand for.
pub record IsAppended {F : Type 0} (h : FileHistory F) (file : F) (f : List ℕ) (end n : ℕ) (after : Image) : Type 0 where
  pub bytes : List ℕ
  pub rests : Rests h file bytes
  pub log : IsLog bytes (end + n)
  pub based : 0 < first_commit (block_at bytes) (end + n)
  pub image : recovered bytes ≡ after
  -- the base stays, or this is the base
  pub base : 0 < first_commit (block_at f) end → base_of bytes ≡ base_of f
  pub first : end ≡ 0 → base_of bytes ≡ after
  -- a read during the call returns what a power loss may leave of it
  pub beside : (c : List ℕ) → IsBlend f bytes c → IsTorn f end after c
