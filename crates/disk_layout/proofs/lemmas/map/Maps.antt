-- The map after a place is taken.
use Rattle.std.proofs.Common.{List, ap, arith, inl, inr, sym, ℕ, ◌+◌, ◌<◌, ◌∙◌, ◌≡◌, ◌≢◌, ◌≤◌, ◌⊎◌}
use Rattle.std.proofs.lemmas.Bool.{cases_eq}
use Rattle.std.specs.Prelude.{Contains, sum_by, ◌↔◌}
use Rattle.d64_image.proofs.Places.{same_or_other, same_place, few_sectors}
use Rattle.d64_image.specs.Geometry.{sectors_on}
use Rattle.d64_image.specs.declared.place.Place.{Place}
use Rattle.disk_layout.proofs.lemmas.lists.Sums.{sum-less, sum-same}
use Rattle.disk_layout.specs.Map.{IsFree, IsMapOf, IsTaken, map_bit, map_count, numbers_below}

apart-place : (p q : Place) → p ≢ q → (q.track ≢ p.track) ⊎ (q.sector ≢ p.sector)
apart-place p q ne = elim (cases_eq q.track p.track) [
  | inr n ↦ inl n
  | inl x ↦ elim (cases_eq q.sector p.sector) [ inr n ↦ inr n | inl y ↦ absurd (ne (same_place p q (sym x) (sym y))) ]
]

-- a sector that exists has one of the 24 bits of its track
pub in-bits : (t s : ℕ) → s < sectors_on t → s < 24
in-bits t s h = omega (arith, h, few_sectors t)

-- a place that nobody owned is taken: the map is that of its new owners, in whatever order they are listed
pub taken-map : (old new : List ℕ) (ps qs : List Place) (p : Place) → IsMapOf old ps → ¬ (Contains ps p)
    → IsTaken old new p → ((q : Place) → Contains qs q ↔ ((p ≡ q) ⊎ Contains ps q)) → IsMapOf new qs
taken-map old new ps qs p map free take members = record { marked = marked; counts = counts }
  where
    marked : (q : Place) → IsFree new q ↔ ¬ (Contains qs q)
    marked q = elim (same_or_other p q) [
      | inl one ↦
          let bit : map_bit new q.track q.sector ≡ 0 = rw (← one) take.bit in
          (λ z. omega (arith, z, bit), λ n. absurd (n ((members q).1 (inl one))))
      | inr ne ↦
          let same : map_bit new q.track q.sector ≡ map_bit old q.track q.sector =
          take.rest.bits q.track q.sector (in-bits q.track q.sector q.on_disk) (apart-place p q ne) in (
            λ z c. (map.marked q).0 (sym same ∙ z) (elim ((members q).0 c) [ inl d ↦ absurd (ne d) | inr d ↦ d ]),
            λ none. same ∙ (map.marked q).1 (λ c. none ((members q).1 (inr c))),
          )
    ]

    counts : (t : ℕ) → 1 ≤ t → t ≤ 35 → map_count new t ≡ sum_by (map_bit new t) (numbers_below (sectors_on t))
    counts t lo hi = elim (cases_eq t p.track) [
      | inl i ↦
          let was : map_bit old p.track p.sector ≡ 1 = (map.marked p).1 free in
          let less = sum-less (map_bit old p.track) (map_bit new p.track) (sectors_on p.track) p.sector p.on_disk
          (was ∙ sym (ap (λ n. n + 1) take.bit))
          (λ k lt ne. sym (take.rest.bits p.track k (in-bits p.track k lt) (inr ne))) in
          let before = map.counts p.track (omega (arith, i)) (omega (arith, i)) in
          rw i (omega (arith, less, before, take.count))
      | inr n ↦ take.rest.counts t n ∙ map.counts t lo hi ∙ sum-same (map_bit old t) (map_bit new t) (sectors_on t)
          (λ k lt. sym (take.rest.bits t k (in-bits t k lt) (inl n)))
    ]

-- a place whose bit is set has no owner
pub set-free : (bytes : List ℕ) (ps : List Place) (p : Place) → IsMapOf bytes ps → IsFree bytes p → ¬ (Contains ps p)
set-free bytes ps p map bit = (map.marked p).0 bit
