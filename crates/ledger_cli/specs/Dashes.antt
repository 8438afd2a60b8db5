-- `-` in place of a path: standard input, where a file is read. Our own.
use Rattle.std.specs.Prelude.{◌≡◌, ◌<◌, Bool, List, bytes_eq, codes, false, get_or, if◌then◌else◌, length, vec_items, Vec, ℕ}
use Rattle.std.specs.Borrow.{Bor}
use Rattle.std.specs.declared.alloc.Global.{Global}
use Rattle.clap.specs.Words.{Text}
use Rattle.disk_changes.specs.declared.changes.ChangeKind.{ChangeKind}
use Rattle.disk_changes.specs.declared.changes.ChangeKind.TheVariants as kinds
use Rattle.image_edits.specs.declared.effect.Effect.TheVariants as effects
use Rattle.ledger_jobs.specs.declared.jobs.Job.{Job}
use Rattle.ledger_jobs.specs.declared.jobs.Job.TheVariants as jobs
use Rattle.opened_files.specs.Rights.{standard_input}

-- the path is `-`
abbrev pub is_dash : List ℕ → Bool
is_dash path = bytes_eq path (codes "-")

-- the path under which a file is read that is named so
abbrev pub read_path : List ℕ → List ℕ
read_path path = if is_dash path then standard_input else path

-- one path is the other as it is read
abbrev pub IsReadAs : Bor Text → Bor Text → Type 0
IsReadAs path read = read.now ≡ read_path path.now

-- so are several paths
pub record AreReadAs (paths read : Vec (Bor Text) Global) : Type 0 where
  pub count : length (vec_items read) ≡ length (vec_items paths)
  pub each : (k : ℕ) (none : Bor Text) → k < length (vec_items paths)
      → IsReadAs (get_or (vec_items paths) k none) (get_or (vec_items read) k none)

-- a job writes a file named `-`
abbrev pub is_written_dash : Job → Bool
is_written_dash (jobs.Format image tills) = is_dash image.now
is_written_dash (jobs.FormatNew image tills) = is_dash image.now
is_written_dash (jobs.New image name id) = is_dash image.now
is_written_dash (jobs.Play image script loss) = is_dash image.now
is_written_dash (jobs.PlayLogged image script loss) = is_dash image.now
is_written_dash (jobs.Serve image loss) = is_dash image.now
is_written_dash (jobs.Change image effects.Written loss kind) = is_dash image.now
is_written_dash (jobs.Copy image copy) = is_dash copy.now
is_written_dash (jobs.Salvage log copy) = is_dash copy.now
is_written_dash (jobs.Extract choice image folder) = is_dash folder.now
is_written_dash _ = false

-- the change with its file as it is read
abbrev pub IsChangeRead : ChangeKind → ChangeKind → Type 0
IsChangeRead (kinds.Put file kind name) changed = (read : Bor Text) × IsReadAs file read × (changed ≡ kinds.Put read kind name)
IsChangeRead (kinds.PutGeos file name) changed = (read : Bor Text) × IsReadAs file read × (changed ≡ kinds.PutGeos read name)
IsChangeRead (kinds.CopyFile from name to) changed =
    (read : Bor Text) × IsReadAs from read × (changed ≡ kinds.CopyFile read name to)
IsChangeRead (kinds.Store records columns name) changed =
    (read : Bor Text) × IsReadAs records read × (changed ≡ kinds.Store read columns name)
IsChangeRead other changed = changed ≡ other

-- the job with each file that it reads as it is read; those that it makes, plays on or serves keep their paths
abbrev pub IsJobRead : Job → Job → Type 0
IsJobRead (jobs.Look image what) job = (read : Bor Text) × IsReadAs image read × (job ≡ jobs.Look read what)
IsJobRead (jobs.Play image script loss) job = (read : Bor Text) × IsReadAs script read × (job ≡ jobs.Play image read loss)
IsJobRead (jobs.PlayLogged image script loss) job =
    (read : Bor Text) × IsReadAs script read × (job ≡ jobs.PlayLogged image read loss)
IsJobRead (jobs.Dry script) job = (read : Bor Text) × IsReadAs script read × (job ≡ jobs.Dry read)
IsJobRead (jobs.Copy image copy) job = (read : Bor Text) × IsReadAs image read × (job ≡ jobs.Copy read copy)
IsJobRead (jobs.Extract choice image folder) job =
    (read : Bor Text) × IsReadAs image read × (job ≡ jobs.Extract choice read folder)
IsJobRead (jobs.Change image effect loss kind) job = (read : Bor Text) × (changed : ChangeKind) × IsReadAs image read
    × IsChangeRead kind changed × (job ≡ jobs.Change read effect loss changed)
IsJobRead (jobs.Trim image) job = (read : Bor Text) × IsReadAs image read × (job ≡ jobs.Trim read)
IsJobRead (jobs.Sheet images) job =
    (read : Vec (Bor Text) Global) × AreReadAs images read × (job ≡ jobs.Sheet read)
IsJobRead (jobs.Describe form images) job =
    (read : Vec (Bor Text) Global) × AreReadAs images read × (job ≡ jobs.Describe form read)
IsJobRead (jobs.Compare before after) job = (one : Bor Text) × (other : Bor Text) × IsReadAs before one × IsReadAs after other
    × (job ≡ jobs.Compare one other)
IsJobRead (jobs.Several what images) job =
    (read : Vec (Bor Text) Global) × AreReadAs images read × (job ≡ jobs.Several what read)
IsJobRead other job = job ≡ other
