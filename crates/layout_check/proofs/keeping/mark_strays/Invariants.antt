use Rattle.std.proofs.Common.{◌≡◌, ◌≤◌, ◌<◌, List, length}
use Rattle.d64_image.specs.Places.{index_of}
use Rattle.d64_image.specs.declared.place.Place.{Place}
use Rattle.layout_check.specs.Keeping.{AreMarked}
use Rattle.layout_check.proofs.keeping.mark_strays.Given as goal

abbrev pub invariant-loop-index : goal.invariant-loop-index
invariant-loop-index l = record {
  marked : (ps : List Place) × AreMarked l.map l.fn.owners l.owners (λ p. index_of p < l.index) ps
      × (l.count ≡ length ps);
  few : l.count ≤ l.index;
}
