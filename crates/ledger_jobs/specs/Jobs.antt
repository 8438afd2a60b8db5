-- What holds of each job. Our own.
use Rattle.std.specs.Prelude.{◌≤◌, ⊤, length}
use Rattle.disk_changes.specs.Changes as changes
use Rattle.file_changes.specs.Names.{name_bytes}
use Rattle.ledger_jobs.specs.declared.jobs.Job.{Job}
use Rattle.ledger_jobs.specs.declared.jobs.Job.TheVariants as jobs

-- A shop that is made has 1 to 64 tills. The name that a file or a disk gets has 16 bytes at most, and a record that is made
-- 1 to 254.
abbrev pub IsFit : Job → Type 0
IsFit (jobs.Format image tills) = (1 ≤ tills) × (tills ≤ 64)
IsFit (jobs.FormatNew image tills) = (1 ≤ tills) × (tills ≤ 64)
IsFit (jobs.Change image effect loss kind) = changes.IsFit kind
IsFit (jobs.New image name id) = length (name_bytes name) ≤ 16
IsFit _ = ⊤
