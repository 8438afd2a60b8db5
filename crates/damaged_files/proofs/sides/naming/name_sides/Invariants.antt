use Rattle.std.proofs.Common.{◌≡◌, List, false}
use Rattle.std.specs.List.{AllByRecursion}
use Rattle.std.specs.Prelude.{Contains}
use Rattle.d64_image.specs.Memory.{disk_image}
use Rattle.d64_image.specs.declared.place.Place.{Place}
use Rattle.disk_layout.specs.declared.slot.Slot.{Slot}
use Rattle.damaged_files.specs.sides.Named.{NamesNoSide, with_sides}
use Rattle.damaged_files.proofs.sides.naming.name_sides.Given as goal

abbrev pub invariant-loop-slot : goal.invariant-loop-slot
invariant-loop-slot l = record {
  before : disk_image l.before ≡ disk_image l.fn.before;
  named : List (Slot × Place);
  each : AllByRecursion (λ e. Contains l.slot-items e.0 × NamesNoSide e.0) named;
  after : disk_image l.after ≡ with_sides (disk_image l.fn.before) named;
  stays : l.any ≡ false → disk_image l.after ≡ disk_image l.fn.after;
}
