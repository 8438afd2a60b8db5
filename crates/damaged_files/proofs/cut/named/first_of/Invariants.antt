-- No entry before has the name.
use Rattle.std.proofs.Common.{◌≡◌, ◌<◌, ℕ}
use Rattle.std.specs.Prelude.{Some, slice_get}
use Rattle.disk_layout.specs.declared.slot.Slot.{Slot}
use Rattle.damaged_files.specs.cut.OfName.{IsOfName}
use Rattle.damaged_files.proofs.cut.named.first_of.Given as goal

abbrev pub invariant-loop-slot : goal.invariant-loop-slot
invariant-loop-slot l = record {
  none : (k : ℕ) (s : Slot) → k < l.slot-index → slice_get l.slots k ≡ Some s → ¬ (IsOfName l.name s);
}
