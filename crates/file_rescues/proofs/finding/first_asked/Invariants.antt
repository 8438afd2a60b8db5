-- No entry before is asked for.
use Rattle.std.proofs.Common.{◌≡◌, ◌<◌, ℕ}
use Rattle.std.specs.Prelude.{Some, slice_get}
use Rattle.disk_layout.specs.declared.slot.Slot.{Slot}
use Rattle.file_rescues.specs.Found.{IsAsked}
use Rattle.file_rescues.proofs.finding.first_asked.Given as goal

abbrev pub invariant-loop-number : goal.invariant-loop-number
invariant-loop-number l = record {
  none : (k : ℕ) → k < l.number → (s : Slot) → slice_get l.slots k ≡ Some s → ¬ (IsAsked l.kind l.name s);
}
