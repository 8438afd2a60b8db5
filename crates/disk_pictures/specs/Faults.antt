-- Why a disk isn't drawn. Our own.
use Rattle.std.specs.Prelude.{◌≡◌, MatchOption, None, Option, Some}
use Rattle.d64_image.specs.Images.{Image}
use Rattle.disk_layout.specs.Fault.{HoldsOfDirectory, nowhere}
use Rattle.disk_layout.specs.declared.faults.Fault.{Fault}
use Rattle.command_faults.specs.declared.faults.CommandFault.{CommandFault}
use Rattle.command_faults.specs.declared.faults.CommandFault.TheVariants as faults

-- no memory was had, and nothing else is reported
abbrev pub IsMemoryFault : CommandFault → Type 0
IsMemoryFault fault = fault ≡ faults.NoMemory

-- what the directory has wrong, if that is why nothing is drawn
abbrev pub layout_fault_of : CommandFault → Option Fault
layout_fault_of (faults.Layout fault) = Some fault
layout_fault_of _ = None

-- why nothing is drawn of an image: no memory, or a fault that holds of the directory's chain
abbrev pub IsDrawFault : Image → CommandFault → Type 0
IsDrawFault img fault = MatchOption (layout_fault_of fault) (IsMemoryFault fault) (HoldsOfDirectory nowhere img)
