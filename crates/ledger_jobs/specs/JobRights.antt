-- What a job may do with the files that its words name. Our own.
use Rattle.std.specs.Prelude.{⊤, ℕ, All, IfSome, List, None, Option, Some}
use Rattle.ledger_jobs.specs.declared.jobs.Job.{Job}
use Rattle.ledger_jobs.specs.declared.jobs.Job.TheVariants as jobs
use Rattle.disk_changes.specs.declared.changes.ChangeKind.TheVariants as kinds
use Rattle.image_file.specs.paths.Rights.{MayRead, Rights}
use Rattle.image_edits.specs.EditRights.{MayEdit, MayReadSource}
use Rattle.opened_files.specs.Rights.{MayLook, MayLookAside, MayReadImage, MayReadText, MayChangeImage, MayMakeImage, MayFillAt}

-- the file that a job reads or writes first; none of a job over several images
abbrev pub first_file : Job → Option (List ℕ)
first_file (jobs.Format image tills) = Some image.now
first_file (jobs.FormatNew image tills) = Some image.now
first_file (jobs.New image name id) = Some image.now
first_file (jobs.Look image what) = Some image.now
first_file (jobs.Change image effect loss kind) = Some image.now
first_file (jobs.Play image script loss) = Some image.now
first_file (jobs.PlayLogged image script loss) = Some image.now
first_file (jobs.Dry script) = Some script.now
first_file (jobs.Serve image loss) = Some image.now
first_file (jobs.Copy image copy) = Some image.now
first_file (jobs.Salvage log copy) = Some log.now
first_file (jobs.Extract choice image folder) = Some image.now
first_file (jobs.Trim image) = Some image.now
first_file (jobs.Compare before after) = Some before.now
first_file _ = None

-- the file or the folder that a job makes where nothing stands
abbrev pub made_path : Job → Option (List ℕ)
made_path (jobs.FormatNew image tills) = Some image.now
made_path (jobs.New image name id) = Some image.now
made_path (jobs.Copy image copy) = Some copy.now
made_path (jobs.Salvage log copy) = Some copy.now
made_path (jobs.Extract choice image folder) = Some folder.now
made_path _ = None

-- the other image, of which a job copies a file
abbrev pub source_file : Job → Option (List ℕ)
source_file (jobs.Change image effect loss (kinds.CopyFile from name to)) = Some from.now
source_file _ = None

-- the script that a job plays, or the file of the host whose bytes a change takes
abbrev pub text_file : Job → Option (List ℕ)
text_file (jobs.Play image script loss) = Some script.now
text_file (jobs.PlayLogged image script loss) = Some script.now
text_file (jobs.Dry script) = Some script.now
text_file (jobs.Change image effect loss (kinds.Put file kind name)) = Some file.now
text_file (jobs.Change image effect loss (kinds.PutGeos file name)) = Some file.now
text_file (jobs.Change image effect loss (kinds.Store records columns name)) = Some records.now
text_file _ = None

module _ {H : Type 0} (rights : Rights H) (host : H) where
  -- what a job needs of the files that its words name
  abbrev pub MayDo : Job → Type 0
  MayDo (jobs.Format image tills) = MayMakeImage rights host image.now × MayChangeImage rights host image.now
  MayDo (jobs.FormatNew image tills) = MayMakeImage rights host image.now
  MayDo (jobs.New image name id) = MayMakeImage rights host image.now
  MayDo (jobs.Look image what) = MayReadImage rights host image.now
  MayDo (jobs.Change image effect loss kind) = MayEdit rights host effect image.now × MayReadSource rights host kind
  MayDo (jobs.Play image script loss) = MayChangeImage rights host image.now × MayReadText rights host script.now
  MayDo (jobs.PlayLogged image script loss) = MayChangeImage rights host image.now × MayReadText rights host script.now
  MayDo (jobs.Dry script) = MayReadText rights host script.now
  MayDo (jobs.Serve image loss) = MayChangeImage rights host image.now
  MayDo (jobs.Copy image copy) = MayReadImage rights host image.now × MayMakeImage rights host copy.now
  MayDo (jobs.Salvage log copy) = MayRead rights host log.now × MayMakeImage rights host copy.now
  MayDo (jobs.Extract choice image folder) = MayReadImage rights host image.now × MayFillAt rights host folder.now
  -- `do_trim` does that job
  MayDo (jobs.Trim image) = ⊤
  MayDo (jobs.Sheet images) = All (λ image. MayReadImage rights host image.now) images.items
  MayDo (jobs.Describe form images) = All (λ image. MayReadImage rights host image.now) images.items
  MayDo (jobs.Compare before after) = MayReadImage rights host before.now × MayReadImage rights host after.now
  MayDo (jobs.Several what images) = All (λ image. MayReadImage rights host image.now) images.items

  -- a script, or the file whose bytes a change takes, may be read again and its length be asked
  abbrev pub MayReadAgain : List ℕ → Type 0
  MayReadAgain path = MayReadText rights host path × MayLook rights host path

  -- what a line for a person below a refusal needs: to read the job's files, and to look at the path of what it makes
  abbrev pub MayExplain : Job → Type 0
  MayExplain (jobs.Compare before after) = MayReadImage rights host before.now × MayReadImage rights host after.now
      × MayLookAside rights host before.now
  MayExplain job = IfSome (first_file job) (MayReadImage rights host) × IfSome (text_file job) MayReadAgain
      × IfSome (source_file job) (MayReadImage rights host) × IfSome (first_file job) (MayLookAside rights host)
      × IfSome (made_path job) (MayLookAside rights host)
