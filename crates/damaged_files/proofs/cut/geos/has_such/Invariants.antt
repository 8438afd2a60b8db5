use Rattle.std.proofs.Common.{◌≡◌, ◌<◌, ℕ}
use Rattle.std.specs.Prelude.{Some, slice_get}
use Rattle.disk_layout.specs.declared.slot.Slot.{Slot}
use Rattle.damaged_files.specs.cut.Geos.{IsGeosEntry}
use Rattle.damaged_files.proofs.cut.geos.has_such.Given as goal

abbrev pub invariant-loop-slot : goal.invariant-loop-slot
invariant-loop-slot l = record {
  none : (k : ℕ) (s : Slot) → k < l.slot-index → slice_get l.slots k ≡ Some s → ¬ (IsGeosEntry s);
}
