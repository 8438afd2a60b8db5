use Rattle.std.proofs.Common.{IsTrue, ◌-◌, ◌≡◌, ◌<◌, ◌≤◌}
use Rattle.d64_image.specs.declared.place.Place.{Place}
use Rattle.layout_check.proofs.lemmas.mending.Ones.{ones_to}
use Rattle.layout_check.specs.Marked.{IsMarked}
use Rattle.layout_check.proofs.maps.is_right_track.Given as goal

abbrev pub invariant-loop-place : goal.invariant-loop-place
invariant-loop-place l = record {
  marked : IsTrue l.right → (p : Place) → p.track ≡ l.track → p.sector < l.sector → IsMarked l.map l.owners p;
  so_far : l.count ≡ ones_to l.map l.track l.sector;
  few : l.count ≤ l.sector;
  short : l.sector ≤ 21;
}

-- how many sectors a track may still have
abbrev pub decreases-loop-place : goal.decreases-loop-place
decreases-loop-place l = 21 - l.sector
