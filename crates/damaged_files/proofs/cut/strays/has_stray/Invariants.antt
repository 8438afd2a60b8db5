use Rattle.std.proofs.Common.{◌<◌, ◌∷◌}
use Rattle.std.specs.Prelude.{Contains}
use Rattle.d64_image.specs.Places.{index_of}
use Rattle.d64_image.specs.declared.place.Place.{Place}
use Rattle.disk_layout.specs.Directory.{map_place}
use Rattle.disk_layout.specs.Layout.{Layout, owners}
use Rattle.disk_layout.specs.Map.{IsFree}
use Rattle.layout_check.specs.Survey.{IsSurveyOf}
use Rattle.damaged_files.proofs.cut.strays.has_stray.Given as goal

abbrev pub invariant-loop-index : goal.invariant-loop-index
invariant-loop-index l = record {
  none : (m : Layout) → IsSurveyOf m l.found → (p : Place) → index_of p < l.index → ¬ (IsFree l.map p)
      → ¬ (Contains (map_place ∷ owners m) p) → ⊥;
}
