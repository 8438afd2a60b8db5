-- The sector's bytes name the place.
use Rattle.std.proofs.Common.{subst, ◌∙◌}
use Rattle.std.specs.Prelude.{MatchOption}
use Rattle.d64_image.specs.Images.{Sector}
use Rattle.d64_image.specs.declared.place.Place.{Place}
use Rattle.disk_layout.specs.Side.{NamesNext}
use Rattle.disk_reports.proofs.sides.next_of.Goals as goal

pub returns : goal.returns
returns c =
    subst (λ (b : Sector). MatchOption c.next_listed.result ((q : Place) → ¬ (NamesNext b c.args.number q))
    (NamesNext b c.args.number)) (c.new.ensures ∙ c.sector.ensures) c.next_listed.ensures
