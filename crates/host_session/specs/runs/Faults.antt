-- The faults of runs, and the numbers by which they are reported. All of it is our own.
use Rattle.std.specs.Prelude.{ℕ}
use Rattle.host_session.specs.declared.runs.event_loop.LoopFault.{LoopFault}
use Rattle.host_session.specs.declared.runs.event_loop.LoopFault.TheVariants as runs
use Rattle.host_session.specs.declared.runs.plays.PlayFault.{PlayFault}
use Rattle.host_session.specs.declared.runs.plays.PlayFault.TheVariants as plays
use Rattle.host_session.specs.declared.runs.scripts.ScriptFault.{ScriptFault}
use Rattle.host_session.specs.declared.runs.scripts.ScriptFault.TheVariants as scripts

-- the number of a fault of a run of events
abbrev pub play_number : PlayFault → ℕ
play_number (plays.Open fault) = 1
play_number plays.NoMemory = 2
play_number plays.Device = 3

-- the number of a fault of a run of a script
abbrev pub script_number : ScriptFault → ℕ
script_number (scripts.Open fault) = 1
script_number (scripts.BadLine line) = 2
script_number scripts.Output = 3
script_number scripts.Device = 4

-- the fault that is returned for events whose run this fault ended
abbrev pub play_fault_of : LoopFault → PlayFault
play_fault_of (runs.Open fault) = plays.Open fault
play_fault_of _ = plays.Device

-- and of a script
abbrev pub script_fault_of : LoopFault → ScriptFault
script_fault_of (runs.Open fault) = scripts.Open fault
script_fault_of runs.Output = scripts.Output
script_fault_of _ = scripts.Device
