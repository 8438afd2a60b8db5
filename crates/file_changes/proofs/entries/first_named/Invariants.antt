-- No entry before has the name.
use Rattle.std.proofs.Common.{◌≡◌, ◌<◌, ℕ}
use Rattle.std.specs.Prelude.{Some, slice_get}
use Rattle.disk_layout.specs.declared.slot.Slot.{Slot}
use Rattle.file_changes.specs.Entries.{HasName}
use Rattle.file_changes.proofs.entries.first_named.Given as goal

abbrev pub invariant-loop-number : goal.invariant-loop-number
invariant-loop-number l = record {
  none : (k : ℕ) → k < l.number → (s : Slot) → slice_get l.entries k ≡ Some s → ¬ (HasName l.padded s);
}
