-- A log that is read. Our own.
use Rattle.std.specs.Prelude.{ℕ, ◌≡◌, ◌≤◌, ◌<◌, ◌↔◌, Bool, IsTrue, List, None, OnErr, OnOk, Option, Result, Some, false, length, slice_index_or, true}
use Rattle.d64_image.specs.Images.{Image}
use Rattle.image_log.specs.Blocks.{IsBlank, block_at, is_last, is_whole}
use Rattle.image_log.specs.Recovered.{EndsTorn, base_end, base_of, commits_end, recovered}
use Rattle.image_log.specs.declared.log_blocks.LogBlocks.{LogBlocks}

-- A call read something: what the log has stays as it is. An error is a failure.
pub record Reads {L T E : Type 0} (bytes : L → Option (List ℕ)) (has_failed : L → Bool) (old new : L)
    (result : Result T E) : Type 0 where
  pub same : bytes new ≡ bytes old
  pub failed : OnErr result (has_failed new ≡ true)
  pub passed : OnOk result (has_failed new ≡ has_failed old)

-- whether there is a log, and then one was opened that has its bytes
abbrev pub IsOpened : {L : Type 0} → (L → Option (List ℕ)) → Option L → Option (List ℕ) → Type 0
IsOpened bytes None there = there ≡ None
IsOpened bytes (Some log) there = (f : List ℕ) × (there ≡ Some f) × (bytes log ≡ Some f)

-- what was found of block q
pub record IsKnown (blocks : LogBlocks) (f : List ℕ) (q : ℕ) : Type 0 where
  pub whole : slice_index_or blocks.whole q false ≡ is_whole q (block_at f q)
  pub last : slice_index_or blocks.last q false ≡ is_last (block_at f q)
  pub blank : IsTrue (slice_index_or blocks.blank q false) ↔ IsBlank (block_at f q)

-- and of all blocks from the m-th on
abbrev pub AreKnown : LogBlocks → List ℕ → ℕ → Type 0
AreKnown blocks f m = (q : ℕ) → m ≤ q → q < 1024 → IsKnown blocks f q

-- A log, with its base and the image that its whole commits stand for; it isn't damaged before its end.
pub record IsReadAs (f : List ℕ) (start now : Image) : Type 0 where
  pub size : length f ≡ 4198400
  pub based : 0 < base_end f
  pub base : start ≡ base_of f
  pub shop : now ≡ recovered f
  pub ends : EndsTorn f (commits_end f)
