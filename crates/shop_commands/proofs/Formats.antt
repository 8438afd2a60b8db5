-- What holds of each end.
use Rattle.std.proofs.Common.{Result, Ok, Err}
use Rattle.std.specs.Prelude.{OnOk}
use Rattle.command_faults.specs.declared.faults.CommandFault.{CommandFault}

-- what holds, holds where it was done
pub on_ok : (result : Result Unit CommandFault) (P : Type 0) → P → OnOk result P
on_ok (Ok _) P holds = holds
on_ok (Err _) P holds = tt
