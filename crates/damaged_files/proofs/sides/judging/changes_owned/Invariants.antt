use Rattle.std.proofs.Common.{◌<◌}
use Rattle.d64_image.specs.Memory.{disk_image}
use Rattle.d64_image.specs.Places.{index_of}
use Rattle.d64_image.specs.declared.place.Place.{Place}
use Rattle.disk_layout.specs.Layout.{Layout}
use Rattle.layout_check.specs.Survey.{IsSurveyOf}
use Rattle.damaged_files.specs.sides.Compared.{SameOrOwned}
use Rattle.damaged_files.proofs.sides.judging.changes_owned.Given as goal

abbrev pub invariant-loop-index : goal.invariant-loop-index
invariant-loop-index l = (m : Layout) → IsSurveyOf m l.found → (p : Place) → index_of p < l.index
    → SameOrOwned (disk_image l.before) (disk_image l.after) m p
