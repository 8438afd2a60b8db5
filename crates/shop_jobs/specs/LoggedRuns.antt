-- What comes of a run that serves a shop over a log. All of it is our own.
use Rattle.std.specs.Prelude.{◌≡◌, ◌≢◌, ◌⊎◌, List, ℕ, Result, Ok, Err, length}
use Rattle.d64_image.specs.Memory.{disk_image, sectors_in}
use Rattle.d64_image.specs.declared.mem_disk.MemDisk.{MemDisk}
use Rattle.host_session.specs.declared.runs.event_loop.LoopFault.{LoopFault}
use Rattle.host_session.specs.declared.runs.event_loop.LoopFault.TheVariants as loop
use Rattle.line_server.specs.Batches.{BatchInput}
use Rattle.line_server.specs.logged.Reporting.{LogOutput}
use Rattle.line_server.specs.logged.Serves.{IsServedOver}
use Rattle.shop_commands.specs.Faults.{opening_fault}
use Rattle.shop_commands.specs.Shops.{IsOpenRefusal}
use Rattle.command_faults.specs.declared.faults.CommandFault.{CommandFault}
use Rattle.command_faults.specs.declared.faults.CommandFault.TheVariants as faults
use Rattle.image_log.specs.ImageLogs.{LogHistory}

-- what is reported of a shop whose service this fault ended
abbrev pub loop_fault : LoopFault → CommandFault
loop_fault (loop.Open fault) = opening_fault fault
loop_fault loop.Input = faults.File
loop_fault loop.Output = faults.File
loop_fault loop.Device = faults.Device

-- The disk of the image was served over the log to this end, batch by batch. Each batch was durable before its replies
-- were reported.
pub record IsLoggedTo {L R T : Type 0} (h : LogHistory L) (i : BatchInput R) (o : LogOutput L T) (image : List ℕ)
    (log after : L) (old_in new_in : R) (old new : T) (end : MemDisk → Result MemDisk (LoopFault × MemDisk)) : Type 0 where
  pub size : length image ≡ 174848
  pub disk : MemDisk
  pub holds : disk_image disk ≡ sectors_in image
  pub left : MemDisk
  pub served : IsServedOver h i o disk log after old_in new_in old new (end left)

-- the log, the input and the output are as they were
abbrev pub IsUnlogged : {L R T : Type 0} → L → L → R → R → T → T → Type 0
IsUnlogged log after old_in new_in old new = (after ≡ log) × (new_in ≡ old_in) × (new ≡ old)

-- Why a shop isn't served over a log to the end of the input. Its size, memory, or that it is no shop's: then nothing was
-- read, written or reported. Or the input or the output; or the log, which takes no more.
abbrev pub IsLoggedFault : {L R T : Type 0} → LogHistory L → BatchInput R → LogOutput L T → (image : List ℕ)
    → L → L → R → R → T → T → CommandFault → Type 0
IsLoggedFault h i o image log after old_in new_in old new faults.ImageSize =
    (length image ≢ 174848) × IsUnlogged log after old_in new_in old new
IsLoggedFault h i o image log after old_in new_in old new faults.NoMemory =
    (length image ≡ 174848) × IsUnlogged log after old_in new_in old new
IsLoggedFault h i o image log after old_in new_in old new (faults.ScriptLine line) = ⊥
IsLoggedFault h i o image log after old_in new_in old new faults.File =
    IsLoggedTo h i o image log after old_in new_in old new (λ left. Err (loop.Input, left))
    ⊎ IsLoggedTo h i o image log after old_in new_in old new (λ left. Err (loop.Output, left))
IsLoggedFault h i o image log after old_in new_in old new faults.Device =
    IsLoggedTo h i o image log after old_in new_in old new (λ left. Err (loop.Device, left))
IsLoggedFault h i o image log after old_in new_in old new fault =
    IsOpenRefusal image fault × IsUnlogged log after old_in new_in old new

-- a run that serves the shop of an image over a log: to the input's end, or not for this fault
abbrev pub IsLoggedRun : {L R T : Type 0} → LogHistory L → BatchInput R → LogOutput L T → (image : List ℕ)
    → L → L → R → R → T → T → Result Unit CommandFault → Type 0
IsLoggedRun h i o image log after old_in new_in old new (Ok _) =
    IsLoggedTo h i o image log after old_in new_in old new (λ left. Ok left)
IsLoggedRun h i o image log after old_in new_in old new (Err fault) =
    IsLoggedFault h i o image log after old_in new_in old new fault
