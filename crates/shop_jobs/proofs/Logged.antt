-- A run over a log, from how the service ended.
use Rattle.std.proofs.Common.{◌≡◌, ℕ, List, Result, Err, inl, inr, length, refl, subst}
use Rattle.d64_image.specs.Images.{Image}
use Rattle.d64_image.specs.Memory.{disk_image, sectors_in}
use Rattle.d64_image.specs.declared.mem_disk.MemDisk.{MemDisk}
use Rattle.host_session.specs.declared.faults.OpenFault.{OpenFault}
use Rattle.host_session.specs.declared.faults.OpenFault.TheVariants as opening
use Rattle.host_session.specs.declared.runs.event_loop.LoopFault.{LoopFault}
use Rattle.host_session.specs.declared.runs.event_loop.LoopFault.TheVariants as loop
use Rattle.host_session.specs.session.Opening.{Refuses}
use Rattle.line_server.specs.Batches.{BatchInput}
use Rattle.line_server.specs.logged.Reporting.{LogOutput}
use Rattle.line_server.specs.logged.Serves.{IsServedOver}
use Rattle.shop_commands.specs.Faults.{opening_fault}
use Rattle.command_faults.specs.Faults.{IsLoadFault}
use Rattle.command_faults.specs.declared.faults.CommandFault.{CommandFault}
use Rattle.image_log.specs.ImageLogs.{LogHistory}
use Rattle.shop_jobs.specs.LoggedRuns.{IsLoggedFault, IsLoggedTo, IsUnlogged, loop_fault}
use Rattle.command_faults.proofs.Loads.{by-load}

module _ {L R T : Type 0} (h : LogHistory L) (i : BatchInput R) (o : LogOutput L T) (image : List ℕ) (log after : L)
    (old_in new_in : R) (old new : T) where
  -- the image wasn't taken into memory
  pub unloaded : (fault : CommandFault) → IsLoadFault image fault → IsUnlogged log after old_in new_in old new
      → IsLoggedFault h i o image log after old_in new_in old new fault
  unloaded fault why same = by-load image (IsLoggedFault h i o image log after old_in new_in old new)
      (λ size. (size, same)) (λ size. (size, same)) fault why

  module _ (disk : MemDisk) (size : length image ≡ 174848) (holds : disk_image disk ≡ sectors_in image) where
    -- it was, and served to this end
    pub logged_to : (end : MemDisk → Result MemDisk (LoopFault × MemDisk)) (left : MemDisk)
        → IsServedOver h i o disk log after old_in new_in old new (end left)
        → IsLoggedTo h i o image log after old_in new_in old new end
    logged_to end left x = record { size = size; disk = disk; holds = holds; left = left; served = x }

    unopened : (f : OpenFault) → Refuses ⊥ (sectors_in image) f → IsUnlogged log after old_in new_in old new
        → IsLoggedFault h i o image log after old_in new_in old new (opening_fault f)
    unopened (opening.Layout x) is same =
        (record { size = size; opening = opening.Layout x; is = refl; refuses = is }, same)
    unopened opening.NoStock is same = (record { size = size; opening = opening.NoStock; is = refl; refuses = is }, same)
    unopened opening.NoRequests is same =
        (record { size = size; opening = opening.NoRequests; is = refl; refuses = is }, same)
    unopened (opening.BadCard r) is same =
        (record { size = size; opening = opening.BadCard r; is = refl; refuses = is }, same)
    unopened (opening.BadRequestCard t) is same =
        (record { size = size; opening = opening.BadRequestCard t; is = refl; refuses = is }, same)
    unopened opening.TwoIntents is same =
        (record { size = size; opening = opening.TwoIntents; is = refl; refuses = is }, same)
    unopened opening.Device is same = absurd is

    -- a fault ended it
    pub logged_fault : (fault : LoopFault) (left : MemDisk)
        → IsServedOver h i o disk log after old_in new_in old new (Err (fault, left))
        → IsLoggedFault h i o image log after old_in new_in old new (loop_fault fault)
    logged_fault (loop.Open f) left x =
        let y = x.«open» f refl in
        unopened f (subst (λ (c : Image). Refuses ⊥ c f) holds y.1) (y.3, y.4, y.5)
    logged_fault loop.Input left x = inl (logged_to (λ d. Err (loop.Input, d)) left x)
    logged_fault loop.Output left x = inr (logged_to (λ d. Err (loop.Output, d)) left x)
    logged_fault loop.Device left x = logged_to (λ d. Err (loop.Device, d)) left x
