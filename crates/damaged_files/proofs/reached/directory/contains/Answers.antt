-- Two places are equal where their tracks and their sectors are.
use Rattle.std.proofs.Common.{Decides, ap, eqb, lit<, ◌≡◌}
use Rattle.std.proofs.lemmas.Bool.Decides.{Decides-and, Decides-eqb, Decides-like}
use Rattle.std.proofs.lemmas.List.Elements.{Decides-contains, contains_decides}
use Rattle.std.specs.Prelude.{◌&&◌}
use Rattle.d64_image.proofs.Places.{same_place}
use Rattle.d64_image.specs.declared.place.Place.{Place}
use Rattle.damaged_files.proofs.reached.directory.contains.Goals as goal

same-decides : (a b : Place) → Decides (eqb a.track b.track && eqb a.sector b.sector) (a ≡ b)
same-decides a b = Decides-like (eqb a.track b.track && eqb a.sector b.sector) (λ both. same_place a b both.0 both.1)
    (λ e. (ap (λ (p : Place). p.track) e, ap (λ (p : Place). p.sector) e))
    (Decides-and (eqb a.track b.track) (eqb a.sector b.sector) (Decides-eqb a.track b.track)
    (Decides-eqb a.sector b.sector))

pub returns : goal.returns
returns c =
    rw (← c.as_slice.ensures.value) (Decides-contains c.as_slice.result.now c.args.place c.contains.result
    (contains_decides (λ (a b : Place). eqb a.track b.track && eqb a.sector b.sector) same-decides
    c.as_slice.result.now c.args.place c.contains.result c.contains.ensures.cases))

pub as_slice-requires : goal.as_slice-requires
as_slice-requires c = lit< tt
