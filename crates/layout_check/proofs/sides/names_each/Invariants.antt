use Rattle.std.proofs.Common.{◌≡◌, ◌+◌, ◌*◌, ◌<◌, ℕ, IsTrue}
use Rattle.std.specs.Prelude.{IsFalse, Some, slice_get}
use Rattle.d64_image.specs.declared.place.Place.{Place}
use Rattle.disk_layout.specs.Chain.{Names}
use Rattle.layout_check.specs.Sides.{IsMisnamed}
use Rattle.layout_check.proofs.sides.names_each.Given as goal

abbrev pub invariant-loop-number : goal.invariant-loop-number
invariant-loop-number l = record {
  right : IsTrue l.same → (k : ℕ) → k < l.number → (q : Place) → slice_get l.places k ≡ Some q
      → Names l.sector (l.at + 2 * k) q;
  wrong : IsFalse l.same → IsMisnamed l.sector l.at l.places;
}
