use Rattle.std.proofs.Common.{◌≡◌, ◌<◌, ℕ}
use Rattle.std.specs.Prelude.{Some, slice_get, slice_range}
use Rattle.disk_layout.specs.declared.slot.Slot.{Slot}
use Rattle.rel_records.proofs.creation.directory_room.has_name.Given as goal

abbrev pub invariant-loop-slot : goal.invariant-loop-slot
invariant-loop-slot l = record {
  none : (k : ℕ) → k < l.slot-index → (s : Slot) → slice_get l.slots k ≡ Some s
      → ¬ (slice_range s.bytes 5 21 ≡ l.padded);
}
