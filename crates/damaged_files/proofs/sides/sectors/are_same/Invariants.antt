use Rattle.std.proofs.Common.{◌≡◌, ◌<◌, ℕ}
use Rattle.std.specs.Prelude.{Some, slice_get}
use Rattle.d64_image.specs.Images.{sector}
use Rattle.d64_image.specs.Memory.{disk_image}
use Rattle.d64_image.specs.declared.place.Place.{Place}
use Rattle.damaged_files.proofs.sides.sectors.are_same.Given as goal

abbrev pub invariant-loop-place : goal.invariant-loop-place
invariant-loop-place l = (k : ℕ) (p : Place) → k < l.place-index → slice_get l.places k ≡ Some p
    → sector (disk_image l.before) p ≡ sector (disk_image l.after) p
