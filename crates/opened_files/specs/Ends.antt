-- How a job ends, and the program's exit status then. All of it is our own.
use Rattle.std.specs.Prelude.{◌≡◌, ℕ, if◌then◌else◌, List, [], ◌++◌, Option, Some, None, Result, Ok, Err, codes, ◌≢◌}
use Rattle.std.specs.IoError.{error_kind}
use Rattle.command_faults.specs.Faults.{command_status, command_text, io_fault, is_told}
use Rattle.command_faults.specs.declared.faults.CommandFault.{CommandFault}
use Rattle.disk_layout.specs.declared.faults.Fault.{Fault}
use Rattle.command_faults.specs.declared.faults.CommandFault.TheVariants as faults
use Rattle.image_log.specs.declared.life.landing.LogFault.{LogFault}
use Rattle.image_log.specs.declared.life.landing.LogFault.TheVariants as logs

-- the line in which it is reported
abbrev pub refusal_line : CommandFault → List ℕ
refusal_line refusal = if is_told refusal then command_text refusal ++ codes "\n" else []

-- what is reported of a log that a folder has
abbrev pub log_refusal : LogFault → CommandFault
log_refusal (logs.Unfit why) = faults.Log
log_refusal (logs.File error) = io_fault (error_kind error)

-- a job is done, with the fault of the layout that it printed, if it printed one; or it isn't, for this reason
abbrev pub JobEnd : Type 0
JobEnd = Result (Option Fault) CommandFault

-- the exit status: 1 also if a fault was printed
abbrev pub end_status : JobEnd → ℕ
end_status (Ok None) = 0
end_status (Ok (Some _)) = 1
end_status (Err refusal) = command_status refusal

-- what is reported of it on standard error
abbrev pub end_line : JobEnd → List ℕ
end_line (Ok _) = []
end_line (Err refusal) = refusal_line refusal

-- what came of a run that prints no fault, as a job's end
abbrev pub as_run : Result Unit CommandFault → JobEnd
as_run (Ok _) = Ok None
as_run (Err fault) = Err fault

-- a run ended so, and this is how its job ended
abbrev pub EndsAs : {A : Type 0} → (A → JobEnd) → JobEnd → (A → Type 0) → Type 0
EndsAs {A} told end P = (ended : A) × (end ≡ told ended) × P ended

-- something was printed, with the fault of the layout that it reports, if it reports one; or this is why not, and unless the
-- output failed nothing was printed
abbrev pub IsPrintEnd : {W : Type 0} → (Printed : W → W → Option Fault → Type 0) → (Why : CommandFault → Type 0) → W → W
    → JobEnd → Type 0
IsPrintEnd Printed Why old new (Ok found) = Printed old new found
IsPrintEnd Printed Why old new (Err fault) = Why fault × (fault ≢ faults.File → new ≡ old)

-- the same of what reports no fault
abbrev pub IsQuietPrint : {W : Type 0} → (Printed : W → W → Type 0) → (Why : CommandFault → Type 0) → W → W → JobEnd → Type 0
IsQuietPrint {W} Printed Why old new end =
    IsPrintEnd (λ (before after : W) found. (found ≡ None) × Printed before after) Why old new end
