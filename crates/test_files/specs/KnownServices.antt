-- What a service or a play over a log left of a snapshot's shop. Our own.
use Rattle.std.specs.Prelude.{◌≡◌, ◌⊎◌, ◌++◌, [], ℕ, IfSome, List, Option, Some, option_to_list}
use Rattle.std.specs.Io.KnownBytes.{Appends}
use Rattle.std.specs.declared.io.traits.Read.{Ghosts as ReadGhosts}
use Rattle.std.specs.declared.io.traits.Seek.{Ghosts as SeekGhosts}
use Rattle.d64_image.specs.Memory.{sectors_in}
use Rattle.host_session.specs.runs.Chains.{told_in}
use Rattle.host_session.specs.shop.Shop.{Shop, start_of}
use Rattle.image_file.specs.declared.paths.host.HostFiles.{Ghosts as HostGhosts}
use Rattle.image_log.specs.declared.life.image_folder.ImageFolder.{ImageFolder}
use Rattle.image_log.specs.declared.life.live_log.LiveLog.{LiveLog}
use Rattle.image_log.specs.declared.life.system_log.SystemLog.{SystemLog}
use Rattle.image_log.specs.life.LiveLogs.{of_live}
use Rattle.line_server.specs.Read.{AreWhole, LacksLf}
use Rattle.line_server.specs.logged.Serves.{AreFirst, HoldsFirst, StayFrom, shop_behind}
use Rattle.line_text.specs.scripts.Lines.{lines}
use Rattle.request_cards.specs.Ledgers.{replies, report}
use Rattle.request_cards.specs.declared.reply.Reply.{Reply}
use Rattle.shop_jobs.specs.JobOutputs.{ArePassed, OverLogs, lines_over}
use Rattle.shop_jobs.specs.KeptServices.{StayIn}
use Rattle.shop_jobs.specs.LandedRuns.{HasLanded, LeavesShops}
use Rattle.test_files.specs.KnownFolders.{IsFresh, snapshot_folders, snapshot_logs}
use Rattle.test_files.specs.declared.snapshots.host.Snapshot.{Snapshot}
use Rattle.test_files.specs.declared.snapshots.open_file.SnapshotFile.{SnapshotFile}

module _ (g : HostGhosts Snapshot SnapshotFile) (r : ReadGhosts SnapshotFile) (s : SeekGhosts SnapshotFile) (host : Snapshot)
    (shop : Shop) (ls : List (List ℕ)) where
  -- There is a folder with the host's image, and one that comes of it with the shop after these lines. A snapshot alone doesn't say
  -- that a job had these two.
  pub record LeavesShop : Type 0 where
    pub opened : ImageFolder Snapshot SnapshotFile g r s
    pub fresh : IsFresh host opened.at.image.folder
    pub folder : ImageFolder Snapshot SnapshotFile g r s
    -- a power loss at any moment on the way left the image as it was, or the shop of some first lines, at rest
    pub moments : LeavesShops (snapshot_folders g r s) opened folder
        (λ c. (c ≡ sectors_in host.image.now) ⊎ HoldsFirst shop ls 0 c)
    -- IMAGE is the shop after them at rest, with no log
    pub landed : HasLanded (snapshot_folders g r s) (shop_behind shop ls) (Some folder)

module _ (g : HostGhosts Snapshot SnapshotFile) (r : ReadGhosts SnapshotFile) (s : SeekGhosts SnapshotFile) (host : Snapshot)
    (shop : Shop) (input : List ℕ) where
  -- The lines of an input were answered by this shop, each once, in order, and nothing else was printed. What came after the last
  -- LF is no line.
  pub record HasServed {W : Type 0} (contents : W → Option (List ℕ)) (old new : W) : Type 0 where
    pub handled : List ℕ
    pub rest : List ℕ
    pub all : input ≡ handled ++ rest
    pub whole : AreWhole handled
    pub lacks : LacksLf rest
    pub told : Appends (contents old) (contents new) (report (replies (start_of shop) [] (lines handled)))
    pub left : LeavesShop g r s host shop (lines handled)

  -- The first lines of an input were handled, and then the input or the output failed.
  pub record HasStopped : Type 0 where
    pub handled : List ℕ
    pub rest : List ℕ
    pub later : List ℕ
    pub read : input ≡ (handled ++ rest) ++ later
    pub whole : AreWhole handled
    pub lacks : LacksLf rest
    pub left : LeavesShop g r s host shop (lines handled)

module _ (g : HostGhosts Snapshot SnapshotFile) (r : ReadGhosts SnapshotFile) (s : SeekGhosts SnapshotFile) (shop : Shop)
    (input : List ℕ) where
  -- the log of a service over a snapshot
  abbrev pub SnapshotLive : Type 0
  SnapshotLive = LiveLog (SystemLog Snapshot SnapshotFile g r s) (ImageFolder Snapshot SnapshotFile g r s)
      (record { history = snapshot_logs g r s })

  -- However a job ended, the first lines of an input were handled, and these replies were printed, each over the log as it was
  -- then. From there until the log was landed or left, a power loss at any moment left the shop of first lines with that line
  -- among them.
  pub record KeepsAnswers {W : Type 0} (contents : W → Option (List ℕ)) (o : OverLogs W) (old new : W) : Type 0 where
    pub handled : List ℕ
    pub rest : List ℕ
    pub later : List ℕ
    pub read : input ≡ (handled ++ rest) ++ later
    pub whole : AreWhole handled
    pub lacks : LacksLf rest
    pub left : SnapshotLive
    pub turns : List (Reply × SnapshotLive)
    pub last : Option (Reply × SnapshotLive)
    pub told : ArePassed (lines_over contents (o _)) old new turns last
    pub replies_are : AreFirst (told_in (turns ++ option_to_list last)) (replies (start_of shop) [] (lines handled))
    -- while the lines were served
    pub served : StayFrom (of_live (snapshot_folders g r s)) shop (lines handled) 0 (turns ++ option_to_list last) left
    -- and while the log was landed, if that was tried
    pub folder : Option (ImageFolder Snapshot SnapshotFile g r s)
    pub stays : IfSome folder (λ d. StayIn (snapshot_folders g r s) d shop (lines handled) 0 (turns ++ option_to_list last))
