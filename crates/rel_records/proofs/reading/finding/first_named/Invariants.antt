use Rattle.std.proofs.Common.{◌≡◌, ◌<◌, ℕ}
use Rattle.std.specs.Prelude.{Some, slice_get}
use Rattle.disk_layout.specs.declared.slot.Slot.{Slot}
use Rattle.rel_records.specs.reading.Named.{IsNamedSlot}
use Rattle.rel_records.proofs.reading.finding.first_named.Given as goal

abbrev pub invariant-loop-number : goal.invariant-loop-number
invariant-loop-number l = record {
  none : (k : ℕ) → k < l.number → (s : Slot) → slice_get l.slots k ≡ Some s → ¬ (IsNamedSlot l.name s);
}
