-- The numbers, exit statuses and texts of what the commands refuse (our own).
use Rattle.std.specs.Prelude.{◌≡◌, ◌++◌, ℕ, List, Option, Some, None, codes, decimal}
use Rattle.host_session.specs.declared.faults.OpenFault.{OpenFault}
use Rattle.host_session.specs.declared.faults.OpenFault.TheVariants as opening
use Rattle.host_session.specs.declared.runs.scripts.ScriptFault.{ScriptFault}
use Rattle.host_session.specs.declared.runs.scripts.ScriptFault.TheVariants as script
use Rattle.shop_commands.specs.declared.dry_run.DryFault.{DryFault}
use Rattle.shop_commands.specs.declared.dry_run.DryFault.TheVariants as dry
use Rattle.command_faults.specs.declared.faults.CommandFault.{CommandFault}
use Rattle.command_faults.specs.declared.faults.CommandFault.TheVariants as faults

-- the number of a fault of a run without a disk
abbrev pub dry_number : DryFault → ℕ
dry_number (dry.BadLine line) = 2
dry_number dry.Output = 3

-- the exit status for a fault of a run without a disk
abbrev pub dry_status : DryFault → ℕ
dry_status (dry.BadLine line) = 1
dry_status dry.Output = 3

-- the fault of a run, for the script's first bad line
abbrev pub IsDryFault : Option ℕ → DryFault → Type 0
IsDryFault bad (dry.BadLine line) = bad ≡ Some line
IsDryFault bad dry.Output = bad ≡ None

-- what is reported if a shop's disk isn't opened for this fault
abbrev pub opening_fault : OpenFault → CommandFault
opening_fault (opening.Layout fault) = faults.Layout fault
opening_fault opening.NoStock = faults.NoStock
opening_fault opening.NoRequests = faults.NoRequests
opening_fault (opening.BadCard item) = faults.BadCard item
opening_fault (opening.BadRequestCard till) = faults.BadRequestCard till
opening_fault opening.TwoIntents = faults.TwoIntents
opening_fault opening.Device = faults.Device

-- what is reported if a script isn't played to its end for this fault
abbrev pub script_fault : ScriptFault → CommandFault
script_fault (script.Open fault) = opening_fault fault
script_fault (script.BadLine line) = faults.ScriptLine line
script_fault script.Output = faults.File
script_fault script.Device = faults.Device

-- why a script isn't played
abbrev pub dry_text : DryFault → List ℕ
dry_text (dry.BadLine line) = codes "SCRIPT LINE " ++ decimal line
dry_text dry.Output = codes "FILE"
