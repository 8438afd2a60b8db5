-- Distinct places are at most 683.
use Rattle.std.proofs.Common.{
  ◌≡◌,
  ℕ,
  suc,
  ◌<◌,
  ◌≤◌,
  ◌⊎◌,
  inl,
  inr,
  true,
  false,
  List,
  [],
  ◌∷◌,
  map,
  length,
  refl,
  ap,
  arith,
  eqb,
}
use Rattle.std.specs.Prelude.{Contains}
use Rattle.std.specs.List.{AllByRecursion, IsDistinct, list_any}
use Rattle.std.proofs.lemmas.Bool.{false≢true, or_cases, ne_eqb}
use Rattle.std.proofs.lemmas.Bool.Decides.{Decides-eqb}
use Rattle.std.proofs.lemmas.Map.Steps.{length-le_from_distinct_below}
use Rattle.d64_image.proofs.Places.{index_below, same_index}
use Rattle.d64_image.specs.Places.{index_of}
use Rattle.d64_image.specs.declared.place.Place.{Place}
use Rattle.disk_layout.proofs.lemmas.lists.Once.{Contains-here, Contains-there}
use Rattle.disk_layout.specs.Chain.{EachOnce}

differ : (p : Place) (ps : List Place) → ¬ (Contains ps p)
    → AllByRecursion (λ y. eqb (index_of p) y ≡ false) (map index_of ps)
differ p [] n = tt
differ p (q ∷ ps) n = (
  ne_eqb (index_of p) (index_of q)
      (λ e. let s : p ≡ q = same_index p q e in n (rw s (Contains-here q ps))),
  differ p ps (λ c. n (Contains-there p q ps c)),
)

distinct : (ps : List Place) → EachOnce ps → IsDistinct eqb (map index_of ps)
unfolding IsDistinct
distinct [] once = tt
distinct (p ∷ ps) once = (differ p ps once.0, distinct ps once.1)

below : (ps : List Place) (q : ℕ) → list_any (eqb q) (map index_of ps) ≡ true → q < 683
below [] q h = absurd (false≢true h)
below (p ∷ ps) q h = step (below ps q) (or_cases (eqb q (index_of p)) (list_any (eqb q) (map index_of ps)) h)
  where
    step : (list_any (eqb q) (map index_of ps) ≡ true → q < 683) → (eqb q (index_of p) ≡ true)
        ⊎ (list_any (eqb q) (map index_of ps) ≡ true) → q < 683
    step more (inl e) = omega (arith, (Decides-eqb q (index_of p)).0 e, index_below p)
    step more (inr t) = more t

length-map_index : (ps : List Place) → length (map index_of ps) ≡ length ps
length-map_index [] = refl
length-map_index (p ∷ ps) = ap suc (length-map_index ps)

-- distinct places are at most as many as the sectors of the disk
pub places-few : (ps : List Place) → EachOnce ps → length ps ≤ 683
places-few ps once = omega (
  arith,
  length-map_index ps,
  length-le_from_distinct_below (map index_of ps) 683
      (distinct ps once) (below ps),
)
