-- What faults of changes say. Our own.
use Rattle.std.specs.Prelude.{Bool, Result, false, true}
use Rattle.d64_image.specs.History.{History, TellsOf}
use Rattle.command_faults.specs.declared.faults.CommandFault.{CommandFault}
use Rattle.command_faults.specs.declared.faults.CommandFault.TheVariants.{Device}

-- the device failed
abbrev pub of_device : CommandFault → Bool
of_device Device = true
of_device _ = false

-- Device is returned only if the device failed, and any other result only if no failure was counted
abbrev pub TellsChange : {D T : Type 0} → History D → D → D → Result T CommandFault → Type 0
TellsChange S old new result = TellsOf of_device S old new result
