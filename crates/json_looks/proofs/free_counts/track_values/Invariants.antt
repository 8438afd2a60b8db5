-- The objects of the tracks so far.
use Rattle.std.proofs.Common.{◌≡◌, ◌∷◌, [], map}
use Rattle.json_looks.specs.FreeCounts.{track_data}
use Rattle.json_looks.specs.Objects.{up_to}
use Rattle.serde_json.specs.View.{view}
use Rattle.json_looks.proofs.free_counts.track_values.Given as goal

abbrev pub invariant-loop-below : goal.invariant-loop-below
invariant-loop-below l = map view l.values.items ≡ up_to l.below (λ track. track_data l.map track ∷ [])
