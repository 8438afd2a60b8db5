-- How the end of a job becomes what the program ends with. Our own.
use Rattle.std.specs.Prelude.{Bool, false, if◌then◌else◌, true, ℕ}
use Rattle.image_looks.specs.declared.kinds.DiskLook.TheVariants as disks
use Rattle.image_looks.specs.declared.kinds.Look.{Look}
use Rattle.image_looks.specs.declared.kinds.Look.TheVariants as looks
use Rattle.ledger_jobs.specs.declared.jobs.Job.{Job}
use Rattle.ledger_jobs.specs.declared.jobs.Job.TheVariants as jobs
use Rattle.opened_files.specs.Ends.{JobEnd, end_status}

-- what is printed is a shop
abbrev pub shows : Look → Bool
shows (looks.Show loss) = true
shows (looks.AsIs (disks.Show loss)) = true
shows _ = false

-- whether a job waits for an image that another program has: one that shows a shop, and one that writes it over a log
abbrev pub waits : Job → Bool
waits (jobs.Look image what) = shows what
waits (jobs.Serve image loss) = true
waits (jobs.PlayLogged image script loss) = true
waits _ = false

-- the exit status of a job that ended so; one whose output nobody reads any more ends as with a file that failed
abbrev pub status_of : (unread : Bool) → JobEnd → ℕ
status_of unread end = if unread then 3 else end_status end
