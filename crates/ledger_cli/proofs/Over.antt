-- A run over the file that was handed in.
use Rattle.std.proofs.Common.{Err, List, Option, Some, inl, inr, ◌≡◌, ℕ}
use Rattle.d64_image.specs.declared.device_as_file.DeviceAsFile.{DeviceAsFile}
use Rattle.d64_image.specs.declared.mirror.Mirror.{Mirror}
use Rattle.ledger_cli.specs.Runs.{IsOverFile}
use Rattle.ledger_cli.specs.Streams.{IsBegun, WhyUnbegun, stream_file}
use Rattle.command_faults.specs.declared.faults.CommandFault.{CommandFault}
use Rattle.opened_files.specs.Ends.{JobEnd}

module _ {F W : Type 0} (image : List ℕ) (file after : Option F) (old new : W) (end : JobEnd)
    (P : DeviceAsFile (Mirror F) → DeviceAsFile (Mirror F) → Type 0) where
  -- it was over the sectors of that file
  pub over : (before left : DeviceAsFile (Mirror F)) → IsBegun image before × (file ≡ Some (stream_file before))
      → after ≡ Some (stream_file left) → P before left → IsOverFile image file after old new end P
  over before left begun is run =
      inr (record { before = before; left = left; begun = begun.0; is_file = begun.1; is_left = is; run = run })

  -- it wasn't begun
  pub unbegun : (fault : CommandFault) → end ≡ Err fault → (after ≡ file) × WhyUnbegun image file fault
      → new ≡ old → IsOverFile image file after old new end P
  unbegun fault is why silent = inl (record { fault = fault; is = is; why = why.1; same = why.0; silent = silent })
