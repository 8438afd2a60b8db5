-- How a job ends that changes an image, from how the change did.
use Rattle.std.proofs.Common.{inl, inr}
use Rattle.opened_files.specs.Ends.{JobEnd}
use Rattle.opened_files.specs.HostFiles.{IsUnbegun, RunEnds}
use Rattle.std.specs.declared.io.ErrorKind.{ErrorKind}
use Rattle.std.specs.declared.io.ErrorKind.TheVariants as kinds
use Rattle.command_faults.specs.Faults.{call_fault}

-- what is known of a run may be weakened
pub run-weaker : {W : Type 0} (old new : W) (end : JobEnd) (P Q : Type 0) → (P → Q) → RunEnds old new end P
    → RunEnds old new end Q
run-weaker old new end P Q f (inl run) = inl (f run)
run-weaker old new end P Q f (inr unbegun) = inr unbegun

-- a call of the system that failed
pub uncalled : (kind : ErrorKind) → IsUnbegun (call_fault kind)
uncalled kinds.WouldBlock = inl (inl tt)
uncalled kinds.OutOfMemory = inl (inl tt)
uncalled _ = inl (inl tt)
