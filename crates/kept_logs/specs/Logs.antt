-- A log in a file of a world, and what a commit makes of it. Our own.
use Rattle.std.specs.Prelude.{◌≡◌, ◌<◌, ℕ, Bool, List, true}
use Rattle.d64_image.specs.Images.{Image}
use Rattle.one_host.specs.Worlds.{World}
use Rattle.image_log.specs.Blocks.{block_at, first_commit}
use Rattle.image_log.specs.Marks.{Covers}
use Rattle.image_log.specs.Recovered.{IsLeft, IsLog, base_of, is_marked, recovered}
use Rattle.kept_logs.specs.Files.{IsSafe, Leaves, OnlyFile, bytes_in}
use Rattle.kept_logs.specs.declared.logs.KeptLog.{KeptLog}

-- the number of its file
abbrev pub log_file : KeptLog → ℕ
log_file l = l.file.number

-- how many blocks its commits take
abbrev pub log_end : KeptLog → ℕ
log_end l = l.end

-- its bytes in a world
abbrev pub log_in : World → KeptLog → List ℕ
log_in w l = bytes_in w (log_file l)

-- In this world the log is in its file: its base, and the image that it stands for. A power loss leaves it so.
pub record Stands (l : KeptLog) (start now : Image) (w : World) : Type 0 where
  pub safe : IsSafe (log_file l) w
  pub log : IsLog (log_in w l) (log_end l)
  pub based : 0 < first_commit (block_at (log_in w l)) (log_end l)
  pub base : base_of (log_in w l) ≡ start
  pub image : recovered (log_in w l) ≡ now

-- The log stands for the image `before`, and each sector that has changed since is marked as touched.
pub record MayCommit (l : KeptLog) (start before : Image) (touched : List Bool) (now : Image) (w : World) : Type 0 where
  pub stands : Stands l start before w
  pub covers : Covers touched before now

-- w is the world v, but a power loss leaves a log in the file that has this base and stands for one of two images
pub record Commits (v : World) (l : KeptLog) (start before after : Image) (w : World) : Type 0 where
  pub only : OnlyFile v (log_file l) w
  pub leaves : Leaves (log_file l) (IsLeft start before after) w

-- w is the world v, but the log, which goes on in the same file, stands for this image
pub record IsCommitted (v : World) (l m : KeptLog) (start now : Image) (w : World) : Type 0 where
  pub file : log_file m ≡ log_file l
  pub only : OnlyFile v (log_file l) w
  pub stands : Stands m start now w

-- w is the world v, but the log is there, and begins with this image
pub record IsBegun (v : World) (l : KeptLog) (image : Image) (w : World) : Type 0 where
  pub only : OnlyFile v (log_file l) w
  pub stands : Stands l image image w

-- w is the world v, but the log in this file is marked, and stands for this image. A power loss leaves it so.
pub record IsMarked (v : World) (n : ℕ) (now : Image) (w : World) : Type 0 where
  pub only : OnlyFile v n w
  pub safe : IsSafe n w
  pub mark : is_marked (bytes_in w n) ≡ true
  pub image : recovered (bytes_in w n) ≡ now
