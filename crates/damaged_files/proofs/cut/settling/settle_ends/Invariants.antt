use Rattle.std.proofs.Common.{◌≡◌, List, map}
use Rattle.std.specs.List.{AllByRecursion}
use Rattle.d64_image.specs.Memory.{disk_image}
use Rattle.d64_image.specs.declared.place.Place.{Place}
use Rattle.disk_layout.specs.Layout.{File, IsLayout, Layout}
use Rattle.damaged_files.specs.cut.Settled.{IsLostEndIn, with_ends}
use Rattle.damaged_files.proofs.cut.settling.settle_ends.Given as goal

abbrev pub invariant-loop-slot : goal.invariant-loop-slot
invariant-loop-slot l = record {
  before : disk_image l.before ≡ disk_image l.fn.before;
  ends : List Place;
  each : (m : Layout) → IsLayout (disk_image l.fn.before) m → l.slots ≡ map (λ (f : File). f.slot) m.files
      → AllByRecursion (IsLostEndIn (disk_image l.fn.before) m) ends;
  after : disk_image l.after ≡ with_ends (disk_image l.fn.before) ends;
}
