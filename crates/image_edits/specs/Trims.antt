-- What comes of an image of which tracks 1 to 35 are printed. Our own.
use Rattle.std.specs.Prelude.{Bool, true, false, List, ℕ, None, Option, Result, Ok, Err, IfErr, IfOk}
use Rattle.disk_pictures.specs.Trims.{IsTrimFault, IsTrimmed}
use Rattle.command_faults.specs.declared.faults.CommandFault.{CommandFault}
use Rattle.opened_files.specs.Ends.{JobEnd}
use Rattle.command_faults.specs.declared.faults.CommandFault.TheVariants as faults

-- it ended so: they were printed, and what isn't there was listed; or not, for this fault
pub record IsTrimRun {W E : Type 0} (contents : W → Option (List ℕ)) (told : E → Option (List ℕ)) (image : List ℕ)
    (old new : W) (err new_err : E) (ended : Result Bool CommandFault) : Type 0 where
  pub done : IfOk ended (IsTrimmed contents told image old new err new_err)
  pub fault : IfErr ended (IsTrimFault image old new err new_err)

-- what came of it, as a job's end
abbrev pub as_trimmed : Result Bool CommandFault → JobEnd
as_trimmed (Ok true) = Ok None
as_trimmed (Ok false) = Err faults.Trimmed
as_trimmed (Err fault) = Err fault
