-- No file before has the name.
use Rattle.std.proofs.Common.{◌≡◌, ◌<◌, ℕ}
use Rattle.std.specs.Prelude.{◌≢◌, Some, slice_get}
use Rattle.file_rescues.specs.declared.rescue.mem_folder.MemFile.{MemFile}
use Rattle.file_rescues.proofs.rescue.mem_folder.has.Given as goal

abbrev pub invariant-loop-file : goal.invariant-loop-file
invariant-loop-file l = record {
  none : (k : ℕ) → k < l.file-index → (f : MemFile) → slice_get l.files k ≡ Some f → f.name.items ≢ l.name;
}
