-- What each job comes to over the bytes that the host says. Our own.
use Rattle.std.specs.Borrow.{Bor}
use Rattle.std.specs.Prelude.{◌≡◌, ℕ, Err, List, Option, Vec, map, vec_items}
use Rattle.std.specs.declared.alloc.Global.{Global}
use Rattle.std.specs.declared.io.traits.Read.{Ghosts as ReadGhosts}
use Rattle.std.specs.declared.io.traits.Seek.{Ghosts as SeekGhosts}
use Rattle.command_faults.specs.declared.faults.CommandFault.TheVariants as faults
use Rattle.disk_changes.specs.declared.changes.Changed.{Changed}
use Rattle.image_file.specs.Remains.{Remains}
use Rattle.image_file.specs.declared.durability.WritesAt.{Ghosts}
use Rattle.image_file.specs.declared.paths.host.HostFiles.{Ghosts as HostGhosts}
use Rattle.image_file.specs.paths.Rights.{Rights}
use Rattle.image_file.specs.paths.Standing.{Stands}
use Rattle.image_file.specs.paths.Traces.{Traces}
use Rattle.image_log.specs.life.HostLogs.{FolderHistories, LogHistories}
use Rattle.opened_files.specs.Ends.{JobEnd}
use Rattle.file_changes.specs.Names.{name_bytes}
use Rattle.shop_jobs.specs.Replies.{IsShopAt, IsLoggedService}
use Rattle.ledger_jobs.specs.declared.jobs.Job.{Job}
use Rattle.ledger_jobs.specs.declared.jobs.Job.TheVariants as jobs
use Rattle.image_looks.specs.LookRuns.{IsLookedAt, IsComparedOver, IsExtractedFrom, AreDrawnOnSheet, AreDescribed, AreOverviewed}
use Rattle.image_edits.specs.NewDisks.{IsNewDiskEnd}
use Rattle.shop_jobs.specs.Formats.{IsFormattedEnd}
use Rattle.shop_jobs.specs.NewShops.{IsNewShopEnd}
use Rattle.image_edits.specs.EditRuns.{IsSalvagedFrom, IsCopiedFrom, IsEditOver}
use Rattle.shop_jobs.specs.JobOutputs.{OverLogs}
use Rattle.shop_jobs.specs.KeptServices.{IsPlayKept, IsServiceKept}
use Rattle.shop_jobs.specs.ServiceEnds.{IsNearEnd}
use Rattle.shop_jobs.specs.ShopRuns.{IsDryOver, IsLeftPlayed, IsPlayedOverFile, IsPlayedOverLog}

-- the paths of several words
abbrev pub paths_of : Vec (Bor (List ℕ)) Global → List (List ℕ)
paths_of images = map (λ image. image.now) (vec_items images)

module _ {H F W : Type 0} (g : HostGhosts H F) (r : ReadGhosts F) (s : SeekGhosts F) (G : Ghosts F) (logs : LogHistories H F)
    (folders : FolderHistories H F) (rights : Rights H) (stands : H → List ℕ → Stands) (traces : Traces H F)
    (remains : Remains F) (changed : H → (path image : List ℕ) → Changed → Type 0)
    (replaced : H → (path image : List ℕ) → Type 0) (given : H → Option (List ℕ)) (contents : W → Option (List ℕ))
    (o : OverLogs W) (host : H) where
  -- a job ended so, over the bytes that the host has at the paths of its words, and left this
  abbrev pub IsJobOver : Job → W → W → JobEnd → Type 0
  IsJobOver (jobs.Look image what) old new end = IsLookedAt rights stands contents host what image.now old new end
  IsJobOver (jobs.Dry script) old new end = IsDryOver stands contents host script.now old new end
  IsJobOver (jobs.Compare before after) old new end = IsComparedOver rights stands contents host before.now after.now old new end
  IsJobOver (jobs.Copy image copy) old new end =
      IsCopiedFrom rights stands traces remains contents host image.now copy.now old new end
  IsJobOver (jobs.Salvage log copy) old new end =
      IsSalvagedFrom rights stands traces remains contents host log.now copy.now old new end
  IsJobOver (jobs.Extract choice image folder) old new end =
      IsExtractedFrom rights stands traces remains contents host choice image.now folder.now old new end
  IsJobOver (jobs.Change image effect loss kind) old new end =
      IsEditOver rights stands changed contents host effect image.now kind loss old new end
  IsJobOver (jobs.Format image tills) old new end =
      IsFormattedEnd remains traces rights replaced contents host image.now tills old new end
  IsJobOver (jobs.FormatNew image tills) old new end = IsNewShopEnd traces remains contents host image.now tills old new end
  IsJobOver (jobs.New image name id) old new end =
      IsNewDiskEnd traces remains contents host image.now (name_bytes name) id old new end
  IsJobOver (jobs.Play image script loss) old new end = IsNearEnd stands host image.now loss old new end
      × IsPlayedOverFile rights stands contents host image.now script.now old new end
      × IsLeftPlayed G stands traces host image.now script.now loss old new end
  IsJobOver (jobs.Sheet images) old new end = AreDrawnOnSheet rights stands contents host (paths_of images) old new end
  IsJobOver (jobs.Describe form images) old new end = AreDescribed rights stands contents host form (paths_of images) old new end
  IsJobOver (jobs.Several what images) old new end = AreOverviewed rights stands contents host what (paths_of images) old new end
  IsJobOver (jobs.PlayLogged image script loss) old new end =
      IsPlayedOverLog rights stands contents host image.now script.now old new end
      × IsPlayKept g r s logs folders stands rights traces contents o host image.now script.now old new end
  IsJobOver (jobs.Serve image loss) old new end = IsLoggedService contents (IsShopAt stands host image.now) old new end
      × IsServiceKept g r s logs folders stands rights traces contents o (given host) host image.now old new end
  -- `do_trim` does that job
  IsJobOver (jobs.Trim image) old new end = (new ≡ old) × (end ≡ Err faults.File)
