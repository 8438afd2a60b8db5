-- What a job that changes or copies an image comes to over the bytes that the host says. Our own.
use Rattle.std.specs.Prelude.{◌≡◌, ◌⊎◌, ℕ, IfErr, IsErr, List, Option, codes, take}
use Rattle.image_file.specs.Remains.{Remains}
use Rattle.image_file.specs.paths.Rights.{Rights}
use Rattle.image_file.specs.paths.Standing.{Stands}
use Rattle.image_file.specs.paths.Traces.{Traces}
use Rattle.damaged_files.specs.declared.sides.planning.Loss.{Loss}
use Rattle.disk_changes.specs.Changes.{IsChangedBy, IsUnchangedBy}
use Rattle.disk_changes.specs.declared.changes.Changed.{Changed}
use Rattle.disk_changes.specs.declared.changes.ChangeKind.{ChangeKind}
use Rattle.image_edits.specs.Changes.{IsChangeEnd, IsChangedAt, IsShownEnd}
use Rattle.image_edits.specs.Copies.{IsCopyEnd}
use Rattle.opened_files.specs.Ends.{JobEnd}
use Rattle.opened_files.specs.HostFiles.{IsUnread, OfImage, OfWritten, RunEnds}
use Rattle.opened_files.specs.Losses.{IsNear, NearRunEnds}
use Rattle.image_edits.specs.Salvages.{IsSalvageEnd}
use Rattle.image_edits.specs.Sources.{IsSourceFor}
use Rattle.image_edits.specs.declared.effect.Effect.{Effect}
use Rattle.image_edits.specs.declared.effect.Effect.TheVariants.{Printed, Written}
use Rattle.image_log.specs.life.Tags.{SaysLogAway}

module _ {H F W : Type 0} (rights : Rights H) (stands : H → List ℕ → Stands) (traces : Traces H F) (remains : Remains F)
    (contents : W → Option (List ℕ)) (host : H) where
  -- the image of the log at a path was copied to another path; or the log wasn't read
  abbrev pub IsSalvagedFrom : (path copy : List ℕ) → W → W → JobEnd → Type 0
  IsSalvagedFrom path copy old new end = OfWritten stands host path
      (λ all. IsSalvageEnd traces remains contents host copy (take 4198400 all) old new end
      ⊎ ((new ≡ old) × IsErr end × IfErr end IsUnread))

  -- the image at a path was copied to another path
  abbrev pub IsCopiedFrom : (path copy : List ℕ) → W → W → JobEnd → Type 0
  IsCopiedFrom path copy old new end = OfImage rights stands host path
      (λ all. RunEnds old new end (IsCopyEnd traces remains contents host copy (codes "COPIED\n") (take 174849 all) old new end))

module _ {H W : Type 0} (rights : Rights H) (stands : H → List ℕ → Stands)
    (changed : H → (path image : List ℕ) → Changed → Type 0) (contents : W → Option (List ℕ)) (host : H) where
  -- Its files were changed, all or nothing, or only what the change would print was printed. That isn't done to an image
  -- whose log has the rest, unless the loss of it is accepted.
  abbrev pub IsEditOver : Effect → List ℕ → ChangeKind → Loss → W → W → JobEnd → Type 0
  IsEditOver Written path kind loss old new end = NearRunEnds loss
      (OfWritten stands host path (λ all. SaysLogAway (take 174849 all))) old new end ((image source : List ℕ)
      × OfWritten stands host path (λ all. image ≡ take 174849 all) × (¬ (SaysLogAway image))
      × IsSourceFor rights stands host kind source × IsChangeEnd contents
      (λ made. IsChangedBy kind loss source image made × IsChangedAt rights changed host path image made)
      (IsUnchangedBy kind loss source image) old new end)
  IsEditOver Printed path kind loss old new end = NearRunEnds loss
      (OfImage rights stands host path (λ all. SaysLogAway (take 174849 all))) old new end ((image source : List ℕ)
      × OfImage rights stands host path (λ all. image ≡ take 174849 all) × IsNear loss image
      × IsSourceFor rights stands host kind source
      × IsShownEnd contents (IsChangedBy kind loss source image) (IsUnchangedBy kind loss source image) old new end)
