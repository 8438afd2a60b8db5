-- The sector had to be marked, or not.
use Rattle.std.proofs.Common.{[], ◌∷◌, refl, subst, sym, ◌⊎◌, ◌≡◌, ◌≢◌}
use Rattle.d64_image.specs.declared.place.Place.{Place}
use Rattle.disk_layout.specs.Map.{IsFree}
use Rattle.layout_check.specs.Owners.{owner_of}
use Rattle.layout_check.proofs.lemmas.owners.Marking.{marked-none, marked-one}
use Rattle.layout_check.proofs.keeping.mark_place.Goals as goal

pub returns-then-not-is_stray-clause-marked : goal.returns-then-not-is_stray-clause-marked
returns-then-not-is_stray-clause-marked c = (
  [],
  marked-none c.args.map.now c.args.owners.now (λ p. p ≡ c.args.place)
      (λ p e. let P : Place → Type 0 = λ x. IsFree c.args.map.now x ⊎ (owner_of c.args.owners.now x ≢ 255) in
      subst P (sym e) (c.if-not-is_stray.ensures.other refl)),
  refl,
)

pub returns-clause-marked : goal.returns-clause-marked
returns-clause-marked c = (
  c.args.place ∷ [],
  marked-one c.args.map.now c.args.owners.now c.set.new.self c.args.place
      (c.if-not-is_stray.ensures.stray refl).0 (c.if-not-is_stray.ensures.stray refl).1
      c.set.ensures.here
      (λ p ne. c.set.ensures.there p ne),
  refl,
)
