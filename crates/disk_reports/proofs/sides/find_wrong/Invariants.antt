-- Those of the side sectors so far that are wrong.
use Rattle.std.proofs.Common.{◌≡◌, ◌≤◌, ◌<◌, ◌↔◌, ℕ, Some, length}
use Rattle.std.specs.Prelude.{Contains, slice_get}
use Rattle.d64_image.specs.Memory.{disk_image}
use Rattle.d64_image.specs.declared.place.Place.{Place}
use Rattle.disk_reports.specs.Trails.{IsIntact}
use Rattle.disk_reports.proofs.sides.find_wrong.Given as goal

abbrev pub invariant-loop-number : goal.invariant-loop-number
invariant-loop-number l = record {
  few : length l.wrong.items ≤ l.number;
  those : (p : Place) → Contains l.wrong.items p ↔ ((j : ℕ) × (j < l.number) × (slice_get l.sides j ≡ Some p)
      × ¬ (IsIntact (disk_image l.disk) l.slot l.blocks l.sides j p));
}
