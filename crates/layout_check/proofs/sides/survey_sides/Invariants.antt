use Rattle.std.proofs.Common.{◌≡◌, ◌+◌, ◌<◌, ℕ, length}
use Rattle.std.specs.Prelude.{Some, slice_get}
use Rattle.d64_image.specs.Images.{sector}
use Rattle.d64_image.specs.declared.place.Place.{Place}
use Rattle.layout_check.specs.Calls.{Passes}
use Rattle.layout_check.specs.Sides.{IsSoundSide}
use Rattle.layout_check.proofs.lemmas.judging.Judged.{ToldBelow}
use Rattle.layout_check.proofs.sides.survey_sides.Given as goal

abbrev pub invariant-loop-number : goal.invariant-loop-number
invariant-loop-number g l = record {
  passes : Passes g.D.Sectors.history l.fn.disk l.disk (length l.sides + l.number);
  sound : (j : ℕ) → j < l.number → (p : Place) → slice_get l.sides j ≡ Some p
      → IsSoundSide (sector (g.D.Sectors.history.image l.fn.disk) p) l.slot l.blocks l.sides j;
  judged : ToldBelow (g.D.Sectors.history.image l.fn.disk) l.slot l.blocks l.sides l.number l.inexact;
}
