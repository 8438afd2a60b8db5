use Rattle.std.proofs.Common.{◌≡◌, ◌<◌, ℕ, map}
use Rattle.std.specs.Prelude.{Some, slice_get}
use Rattle.d64_image.specs.Memory.{disk_image}
use Rattle.d64_image.specs.declared.place.Place.{Place}
use Rattle.disk_layout.specs.Layout.{File, IsLayout, Layout}
use Rattle.damaged_files.specs.cut.Cut.{HasFewer}
use Rattle.damaged_files.proofs.cut.cuts.first_fewer.Given as goal

abbrev pub invariant-loop-slot : goal.invariant-loop-slot
invariant-loop-slot l = record {
  same : disk_image l.disk ≡ disk_image l.fn.disk;
  none : (m : Layout) → IsLayout (disk_image l.fn.disk) m → l.slots ≡ map (λ (f : File). f.slot) m.files → (k : ℕ)
      (g : File) (q : Place) → k < l.slot-index → slice_get m.files k ≡ Some g → ¬ (HasFewer g q);
}
