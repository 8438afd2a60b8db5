use Rattle.std.proofs.Common.{◌≡◌, ◌<◌, ℕ}
use Rattle.std.specs.Prelude.{Some, slice_get}
use Rattle.d64_image.specs.Memory.{disk_image}
use Rattle.disk_layout.specs.declared.slot.Slot.{Slot}
use Rattle.damaged_files.specs.sides.Compared.{SameChain}
use Rattle.damaged_files.proofs.sides.comparing.keeps_each.Given as goal

abbrev pub invariant-loop-slot : goal.invariant-loop-slot
invariant-loop-slot l = record {
  after : disk_image l.after ≡ disk_image l.fn.after;
  same : (k : ℕ) (s : Slot) → k < l.slot-index → slice_get l.slots k ≡ Some s
      → SameChain (disk_image l.before) (disk_image l.fn.after) s;
}
