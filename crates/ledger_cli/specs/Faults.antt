-- The numbers and exit statuses of what the program refuses (our own).
use Rattle.std.specs.Prelude.{ℕ}
use Rattle.clap.specs.Values.{kind_of}
use Rattle.clap.specs.declared.error.kind.ErrorKind.{ErrorKind}
use Rattle.clap.specs.declared.error.kind.ErrorKind.TheVariants as kinds
use Rattle.ledger_cli.specs.declared.faults.JobFault.{JobFault}
use Rattle.ledger_cli.specs.declared.faults.JobFault.TheVariants as jobs

-- the number of a fault in the words
abbrev pub job_number : JobFault → ℕ
job_number (jobs.Words e) = 1
job_number jobs.Tills = 2
job_number jobs.Name = 3
job_number jobs.Length = 4
job_number jobs.Images = 5
job_number jobs.Sector = 6
job_number jobs.Id = 7
job_number jobs.Flags = 8
job_number jobs.Kind = 9
job_number jobs.Positions = 10
job_number jobs.Path = 11

-- the exit status for words that give no job: 3 if memory ran out, 0 if help or the version is asked for
abbrev pub words_status : ErrorKind → ℕ
words_status kinds.OutOfMemory = 3
words_status kinds.DisplayHelp = 0
words_status kinds.DisplayVersion = 0
words_status _ = 2

-- the exit status for a fault of the arguments
abbrev pub job_status : JobFault → ℕ
job_status (jobs.Words e) = words_status (kind_of e)
job_status jobs.Tills = 2
job_status jobs.Name = 2
job_status jobs.Length = 2
job_status jobs.Images = 2
job_status jobs.Sector = 2
job_status jobs.Id = 2
job_status jobs.Flags = 2
job_status jobs.Kind = 2
job_status jobs.Positions = 2
job_status jobs.Path = 2
