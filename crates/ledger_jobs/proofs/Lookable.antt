-- What files of a job may be read for a person.
use Rattle.std.specs.Prelude.{None, Option, Some, IfSome, option_map}
use Rattle.image_file.specs.paths.Rights.{Rights}
use Rattle.ledger_jobs.specs.JobRights.{MayExplain, MayReadAgain, first_file, made_path, source_file, text_file}
use Rattle.opened_files.specs.Rights.{MayLookAside, MayReadImage}
use Rattle.ledger_jobs.specs.declared.jobs.Job.{Job}
use Rattle.ledger_jobs.specs.declared.jobs.Job.TheVariants as jobs

-- what holds of each mapped value holds of what it was made of
pub if-mapped : {A B : Type 0} (x : Option A) (f : A → B) (P : B → Type 0) → IfSome (option_map f x) P
    → IfSome x (λ a. P (f a))
if-mapped None f P holds = tt
if-mapped (Some a) f P holds = holds

-- a job that may be explained may read its first file
pub read-first : {H : Type 0} (rights : Rights H) (host : H) (job : Job) → MayExplain rights host job
    → IfSome (first_file job) (MayReadImage rights host)
read-first rights host (jobs.Format image tills) may = may.0
read-first rights host (jobs.FormatNew image tills) may = may.0
read-first rights host (jobs.New image name id) may = may.0
read-first rights host (jobs.Look image what) may = may.0
read-first rights host (jobs.Change image effect loss kind) may = may.0
read-first rights host (jobs.Play image script loss) may = may.0
read-first rights host (jobs.PlayLogged image script loss) may = may.0
read-first rights host (jobs.Dry script) may = may.0
read-first rights host (jobs.Serve image loss) may = may.0
read-first rights host (jobs.Copy image copy) may = may.0
read-first rights host (jobs.Salvage log copy) may = may.0
read-first rights host (jobs.Extract choice image folder) may = may.0
read-first rights host (jobs.Trim image) may = may.0
read-first rights host (jobs.Compare before after) may = may.0
read-first rights host (jobs.Sheet images) may = may.0
read-first rights host (jobs.Describe form images) may = may.0
read-first rights host (jobs.Several what images) may = may.0

-- and the text that it reads
pub read-text : {H : Type 0} (rights : Rights H) (host : H) (job : Job) → MayExplain rights host job
    → IfSome (text_file job) (MayReadAgain rights host)
read-text rights host (jobs.Format image tills) may = may.1
read-text rights host (jobs.FormatNew image tills) may = may.1
read-text rights host (jobs.New image name id) may = may.1
read-text rights host (jobs.Look image what) may = may.1
read-text rights host (jobs.Change image effect loss kind) may = may.1
read-text rights host (jobs.Play image script loss) may = may.1
read-text rights host (jobs.PlayLogged image script loss) may = may.1
read-text rights host (jobs.Dry script) may = may.1
read-text rights host (jobs.Serve image loss) may = may.1
read-text rights host (jobs.Copy image copy) may = may.1
read-text rights host (jobs.Salvage log copy) may = may.1
read-text rights host (jobs.Extract choice image folder) may = may.1
read-text rights host (jobs.Trim image) may = may.1
read-text rights host (jobs.Compare before after) may = tt
read-text rights host (jobs.Sheet images) may = may.1
read-text rights host (jobs.Describe form images) may = may.1
read-text rights host (jobs.Several what images) may = may.1

-- and the image of which it copies a file
pub read-source : {H : Type 0} (rights : Rights H) (host : H) (job : Job) → MayExplain rights host job
    → IfSome (source_file job) (MayReadImage rights host)
read-source rights host (jobs.Format image tills) may = may.2
read-source rights host (jobs.FormatNew image tills) may = may.2
read-source rights host (jobs.New image name id) may = may.2
read-source rights host (jobs.Look image what) may = may.2
read-source rights host (jobs.Change image effect loss kind) may = may.2
read-source rights host (jobs.Play image script loss) may = may.2
read-source rights host (jobs.PlayLogged image script loss) may = may.2
read-source rights host (jobs.Dry script) may = may.2
read-source rights host (jobs.Serve image loss) may = may.2
read-source rights host (jobs.Copy image copy) may = may.2
read-source rights host (jobs.Salvage log copy) may = may.2
read-source rights host (jobs.Extract choice image folder) may = may.2
read-source rights host (jobs.Trim image) may = may.2
read-source rights host (jobs.Compare before after) may = tt
read-source rights host (jobs.Sheet images) may = may.2
read-source rights host (jobs.Describe form images) may = may.2
read-source rights host (jobs.Several what images) may = may.2

-- and look at the path of what it makes
pub look-made : {H : Type 0} (rights : Rights H) (host : H) (job : Job) → MayExplain rights host job
    → IfSome (made_path job) (MayLookAside rights host)
look-made rights host (jobs.Format image tills) may = may.4
look-made rights host (jobs.FormatNew image tills) may = may.4
look-made rights host (jobs.New image name id) may = may.4
look-made rights host (jobs.Look image what) may = may.4
look-made rights host (jobs.Change image effect loss kind) may = may.4
look-made rights host (jobs.Play image script loss) may = may.4
look-made rights host (jobs.PlayLogged image script loss) may = may.4
look-made rights host (jobs.Dry script) may = may.4
look-made rights host (jobs.Serve image loss) may = may.4
look-made rights host (jobs.Copy image copy) may = may.4
look-made rights host (jobs.Salvage log copy) may = may.4
look-made rights host (jobs.Extract choice image folder) may = may.4
look-made rights host (jobs.Trim image) may = may.4
look-made rights host (jobs.Compare before after) may = tt
look-made rights host (jobs.Sheet images) may = may.4
look-made rights host (jobs.Describe form images) may = may.4
look-made rights host (jobs.Several what images) may = may.4

-- and look beside its first file
pub look-beside : {H : Type 0} (rights : Rights H) (host : H) (job : Job) → MayExplain rights host job
    → IfSome (first_file job) (MayLookAside rights host)
look-beside rights host (jobs.Format image tills) may = may.3
look-beside rights host (jobs.FormatNew image tills) may = may.3
look-beside rights host (jobs.New image name id) may = may.3
look-beside rights host (jobs.Look image what) may = may.3
look-beside rights host (jobs.Change image effect loss kind) may = may.3
look-beside rights host (jobs.Play image script loss) may = may.3
look-beside rights host (jobs.PlayLogged image script loss) may = may.3
look-beside rights host (jobs.Dry script) may = may.3
look-beside rights host (jobs.Serve image loss) may = may.3
look-beside rights host (jobs.Copy image copy) may = may.3
look-beside rights host (jobs.Salvage log copy) may = may.3
look-beside rights host (jobs.Extract choice image folder) may = may.3
look-beside rights host (jobs.Trim image) may = may.3
look-beside rights host (jobs.Compare before after) may = may.2
look-beside rights host (jobs.Sheet images) may = may.3
look-beside rights host (jobs.Describe form images) may = may.3
look-beside rights host (jobs.Several what images) may = may.3
