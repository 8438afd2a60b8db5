-- A disk in memory, committed to a log. All of it is our own.
use Rattle.std.specs.Prelude.{◌≡◌, OnErr, OnOk, Result, true}
use Rattle.d64_image.specs.Images.{Image}
use Rattle.image_log.specs.ImageLogs.{IsEither, LeavesImages, LogHistory}
use Rattle.image_log.specs.Marks.{Covers}
use Rattle.image_log.specs.Touched.{touched_of}
use Rattle.line_server.specs.logged.Memory.{Memory, image_of}

-- The disk was committed to a log that stood for the image `before`, of which a copy was kept.
pub record IsKept {L E : Type 0} (h : LogHistory L) (disk : Memory) (before kept : Image) (old new : L)
    (result : Result Unit E) : Type 0 where
  pub ok : OnOk result (Covers (touched_of disk) before (image_of disk)
      → (kept ≡ image_of disk) × (h.stands_for old before → h.stands_for new (image_of disk)))
  -- a power loss at any moment leaves the image before or this one
  pub any_moment : h.stands_for old before → Covers (touched_of disk) before (image_of disk)
      → LeavesImages h old new (IsEither before (image_of disk))
  -- if the disk is as it was, nothing is asked of the log's files
  pub quiet : before ≡ image_of disk → new ≡ old
  -- an error is returned only if the log takes no more commits
  pub over : OnErr result (h.is_over new ≡ true)
