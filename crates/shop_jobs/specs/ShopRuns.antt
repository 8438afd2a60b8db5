-- What a job that plays a script comes to over the bytes that the host says. Our own.
use Rattle.std.specs.Prelude.{◌≡◌, ℕ, List, Option, take}
use Rattle.image_file.specs.declared.durability.WritesAt.{Ghosts}
use Rattle.image_file.specs.paths.Rights.{Rights}
use Rattle.image_file.specs.paths.Standing.{Stands}
use Rattle.image_file.specs.paths.Traces.{Traces}
use Rattle.shop_jobs.specs.ServiceEnds.{IsLoggedEnd, IsQuietEnd}
use Rattle.opened_files.specs.Ends.{JobEnd}
use Rattle.shop_jobs.specs.Replies.{IsShopAt, AreReplyLines, IsPlainPlayed}
use Rattle.opened_files.specs.HostFiles.{OfText, OfWritten, RunEnds}
use Rattle.opened_files.specs.Losses.{NearRunEnds}
use Rattle.damaged_files.specs.declared.sides.planning.Loss.{Loss}
use Rattle.shop_jobs.specs.FilePlays.{IsPlayedAt}
use Rattle.shop_jobs.specs.LoggedPlays.{IsLoggedPlayEnd}
use Rattle.shop_jobs.specs.Runs.{IsDryRun}
use Rattle.image_log.specs.life.Tags.{SaysLogAway}

-- The replies to the script at a path were printed, from no cards on and without a disk.
abbrev pub IsDryOver : {H W : Type 0} → (H → List ℕ → Stands) → (W → Option (List ℕ)) → H → List ℕ → W → W → JobEnd → Type 0
IsDryOver stands contents host path old new end =
    OfText stands host path (λ all. RunEnds old new end (IsDryRun contents all old new end))

module _ {H W : Type 0} (rights : Rights H) (stands : H → List ℕ → Stands) (contents : W → Option (List ℕ)) (host : H) where
  -- a script was played on the shop of an image, over its file
  abbrev pub IsPlayedOverFile : (image script : List ℕ) → W → W → JobEnd → Type 0
  IsPlayedOverFile image script old new end = IsQuietEnd old new end × AreReplyLines contents old new
      × OfText stands host script (λ all. IsPlainPlayed contents (IsShopAt stands host image) all old new end)

  -- a script was played on the shop of an image, over a log beside it
  abbrev pub IsPlayedOverLog : (image script : List ℕ) → W → W → JobEnd → Type 0
  IsPlayedOverLog image script old new end = IsLoggedEnd old new end × AreReplyLines contents old new
      × OfText stands host script (λ all. IsLoggedPlayEnd contents (IsShopAt stands host image) all old new end)

module _ {H F W : Type 0} (G : Ghosts F) (stands : H → List ℕ → Stands) (traces : Traces H F) (host : H) where
  -- A script was played on the shop of the image in the file at a path; or the play wasn't begun, and nothing was printed. The
  -- image and the script are those that the host says.
  abbrev pub IsLeftPlayed : (path script : List ℕ) → Loss → W → W → JobEnd → Type 0
  IsLeftPlayed path script loss old new end = NearRunEnds loss
      (OfWritten stands host path (λ all. SaysLogAway (take 174849 all))) old new end ((image text : List ℕ)
      × OfWritten stands host path (λ all. image ≡ take 174849 all) × OfText stands host script (λ all. text ≡ all)
      × IsPlayedAt G traces host path image text end)
