-- The sectors so far.
use Rattle.std.proofs.Common.{◌<◌}
use Rattle.d64_image.specs.Places.{index_of}
use Rattle.disk_layout.specs.Layout.{Layout}
use Rattle.file_changes.specs.Frees.{IsFreedMap, IsLeft}
use Rattle.layout_check.specs.Survey.{IsSurveyOf}
use Rattle.file_changes.proofs.freeing.give_all_left.Given as goal

abbrev pub invariant-loop-index : goal.invariant-loop-index
invariant-loop-index l = record {
  freed : (k : Layout) → (m : Layout) → IsSurveyOf k l.before → IsSurveyOf m l.after
      → IsFreedMap l.fn.map.bytes l.map.bytes (λ p. (index_of p < l.index) × IsLeft k m p);
}
