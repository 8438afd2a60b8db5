use Rattle.std.proofs.Common.{◌≡◌, ◌<◌, ◌≤◌}
use Rattle.d64_image.specs.declared.place.Place.{Place}
use Rattle.layout_check.proofs.lemmas.mending.Ones.{ones_to}
use Rattle.layout_check.specs.Marked.{IsMarked}
use Rattle.layout_check.proofs.maps.check_track.Given as goal

abbrev pub invariant-loop-sector : goal.invariant-loop-sector
invariant-loop-sector l = record {
  marked : (p : Place) → p.track ≡ l.track → p.sector < l.sector → IsMarked l.map l.owners p;
  so_far : l.count ≡ ones_to l.map l.track l.sector;
  few : l.count ≤ l.sector;
}
