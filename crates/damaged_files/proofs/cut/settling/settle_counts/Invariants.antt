use Rattle.std.proofs.Common.{◌≡◌, List, map, ℕ}
use Rattle.std.specs.List.{AllByRecursion}
use Rattle.d64_image.specs.Memory.{disk_image}
use Rattle.disk_layout.specs.Layout.{File, IsLayout, Layout}
use Rattle.disk_layout.specs.declared.slot.Slot.{Slot}
use Rattle.damaged_files.specs.cut.Settled.{IsCountIn, with_counts}
use Rattle.damaged_files.proofs.cut.settling.settle_counts.Given as goal

abbrev pub invariant-loop-slot : goal.invariant-loop-slot
invariant-loop-slot l = record {
  before : disk_image l.before ≡ disk_image l.fn.before;
  counts : List (Slot × ℕ);
  each : (m : Layout) → IsLayout (disk_image l.fn.before) m → l.slots ≡ map (λ (f : File). f.slot) m.files
      → AllByRecursion (IsCountIn m) counts;
  after : disk_image l.after ≡ with_counts (disk_image l.fn.after) counts;
}
