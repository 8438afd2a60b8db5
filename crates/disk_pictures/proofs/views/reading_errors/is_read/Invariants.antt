-- The sectors so far were read.
use Rattle.std.proofs.Common.{◌<◌, ◌≡◌}
use Rattle.std.specs.Prelude.{None}
use Rattle.d64_image.specs.Places.{index_of}
use Rattle.d64_image.specs.declared.place.Place.{Place}
use Rattle.damaged_files.specs.reached.Sizes.{error_of}
use Rattle.disk_pictures.proofs.views.reading_errors.is_read.Given as goal

abbrev pub invariant-loop-index : goal.invariant-loop-index
invariant-loop-index l = (p : Place) → index_of p < l.index → error_of l.image p ≡ None
