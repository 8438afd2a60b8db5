-- All may be done with the files of a snapshot.
use Rattle.std.proofs.Common.{List, refl, ℕ}
use Rattle.std.specs.Prelude.{slice_index_or}
use Rattle.image_edits.specs.EditRights.{MayEdit, MayReadSource}
use Rattle.disk_changes.specs.declared.changes.ChangeKind.{ChangeKind}
use Rattle.disk_changes.specs.declared.changes.ChangeKind.TheVariants as kinds
use Rattle.image_edits.specs.declared.effect.Effect.{Effect}
use Rattle.image_edits.specs.declared.effect.Effect.TheVariants.{Printed, Written}
use Rattle.ledger_jobs.specs.JobRights.{MayDo}
use Rattle.ledger_jobs.specs.declared.jobs.Job.{Job}
use Rattle.ledger_jobs.specs.declared.jobs.Job.TheVariants as jobs
use Rattle.opened_files.specs.Rights.{MayChangeImage, MayFill, MayMakeImage, MayMakeNew, MayReadImage}
use Rattle.image_log.specs.life.LogRights.{MayForget, MayKeepLogOf}
use Rattle.test_files.specs.Snapshots.{snapshot_rights}
use Rattle.test_files.specs.declared.snapshots.host.Snapshot.{Snapshot}

module _ (host : Snapshot) where
  abbrev forget : (path : List ℕ) → MayForget snapshot_rights host path
  forget path = (refl, refl, refl, refl, refl)

  abbrev keep : (path : List ℕ) → MayKeepLogOf snapshot_rights host path
  keep path = (forget path, (refl, refl), (refl, refl), refl, refl)

  change : (path : List ℕ) → MayChangeImage snapshot_rights host path
  change path = ((refl, refl), (refl, λ image leads. keep image))

  read : (path : List ℕ) → MayReadImage snapshot_rights host path
  read path = λ other. ((refl, refl), (refl, λ image leads. (refl, refl)))

  new : (path : List ℕ) → MayMakeNew snapshot_rights host path
  new path = (refl, refl, λ end. (refl, refl, refl))

  make : (path : List ℕ) → MayMakeImage snapshot_rights host path
  make path = (new path, (refl, λ image leads. (forget image, (refl, refl))))

  fill : (path : List ℕ) → MayFill snapshot_rights host path
  fill path = (new path, λ end name inside. (refl, refl, refl))

  edit : (effect : Effect) (path : List ℕ) → MayEdit snapshot_rights host effect path
  edit Written path = change path
  edit Printed path = read path

  source : (kind : ChangeKind) → MayReadSource snapshot_rights host kind
  source (kinds.Put file kind name) = λ other. refl
  source (kinds.PutGeos file name) = λ other. refl
  source (kinds.Store records columns name) = λ other. refl
  source (kinds.CopyFile from name to) = read from.now
  source _ = tt

  pub may-do : (job : Job) → MayDo snapshot_rights host job
  may-do (jobs.Format image tills) = (make image.now, change image.now)
  may-do (jobs.FormatNew image tills) = make image.now
  may-do (jobs.New image name id) = make image.now
  may-do (jobs.Look image what) = read image.now
  may-do (jobs.Change image effect loss kind) = (edit effect image.now, source kind)
  may-do (jobs.Play image script loss) = (change image.now, λ other. refl)
  may-do (jobs.PlayLogged image script loss) = (change image.now, λ other. refl)
  may-do (jobs.Dry script) = λ other. refl
  may-do (jobs.Serve image loss) = change image.now
  may-do (jobs.Copy image copy) = (read image.now, make copy.now)
  may-do (jobs.Salvage log copy) = ((refl, refl), make copy.now)
  may-do (jobs.Extract choice image folder) = (read image.now, (fill folder.now, λ inner ends. fill inner))
  may-do (jobs.Trim image) = tt
  may-do (jobs.Sheet images) = λ k other below. read (slice_index_or images.items k other).now
  may-do (jobs.Describe form images) = λ k other below. read (slice_index_or images.items k other).now
  may-do (jobs.Compare before after) = (read before.now, read after.now)
  may-do (jobs.Several what images) = λ k other below. read (slice_index_or images.items k other).now
