use Rattle.std.proofs.Common.{◌≡◌, ◌<◌, ℕ}
use Rattle.std.specs.Prelude.{Some, slice_get}
use Rattle.disk_layout.specs.declared.slot.Slot.{Slot}
use Rattle.disk_layout.specs.Listed.{IsStock}
use Rattle.damaged_files.proofs.cut.names.has_stock.Given as goal

abbrev pub invariant-loop-slot : goal.invariant-loop-slot
invariant-loop-slot l = record {
  none : (k : ℕ) (s : Slot) → k < l.slot-index → slice_get l.slots k ≡ Some s → ¬ (IsStock s);
}
