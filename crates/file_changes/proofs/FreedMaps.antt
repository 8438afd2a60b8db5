-- Sectors freed in a map, one after another.
use Rattle.std.proofs.Common.{◌≡◌, ◌≢◌, ◌⊎◌, ◌↔◌, ◌<◌, ◌≤◌, ◌+◌, ◌∷◌, ◌++◌, ◌∙◌, ℕ, List, suc, zero, ap, arith, inl, inr, refl, subst, sym}
use Rattle.std.proofs.Math.Decide.{dec_lt}
use Rattle.std.proofs.lemmas.Bool.{cases_eq}
use Rattle.std.proofs.lemmas.List.Elements.{Contains-append_cases, Contains-append_left, Contains-append_right}
use Rattle.std.proofs.lemmas.List.Sums.{sum_by-cons}
use Rattle.std.proofs.lemmas.Nat.Bits.{bit_at-lt}
use Rattle.std.specs.Prelude.{Contains, sum_by, ◌/◌, ◌%◌, ◌*◌, slice_index}
use Rattle.d64_image.proofs.Places.{few_sectors, index_below, same_index, same_or_other, same_place}
use Rattle.d64_image.specs.Geometry.{sectors_on}
use Rattle.d64_image.specs.Images.{Sector}
use Rattle.d64_image.specs.Places.{index_of}
use Rattle.d64_image.specs.declared.place.Place.{Place}
use Rattle.disk_layout.proofs.lemmas.lists.Sums.{sum-less, sum-same}
use Rattle.disk_layout.proofs.lemmas.map.Maps.{in-bits}
use Rattle.disk_layout.specs.Directory.{map_place}
use Rattle.disk_layout.specs.Layout.{Layout, owners}
use Rattle.disk_layout.specs.Map.{IsFree, IsGiven, IsMapOf, map_bit, numbers_below}
use Rattle.file_changes.specs.Frees.{HasCounts, IsFreedMap, IsLeft}

apart-place : (p q : Place) → p ≢ q → (q.track ≢ p.track) ⊎ (q.sector ≢ p.sector)
apart-place p q ne = elim (cases_eq q.track p.track) [
  | inr n ↦ inl n
  | inl x ↦ elim (cases_eq q.sector p.sector) [ inr n ↦ inr n | inl y ↦ absurd (ne (same_place p q (sym x) (sym y))) ]
]

bit-low : (bytes : Sector) (t s : ℕ) → map_bit bytes t s < 2
bit-low bytes t s = bit_at-lt (slice_index bytes (4 * t + 1 + s / 8)) (s % 8)

-- a sum of bits
sum-few : (f : ℕ → ℕ) (n : ℕ) → ((k : ℕ) → f k < 2) → sum_by f (numbers_below n) ≤ n
sum-few f zero low = omega arith
sum-few f (suc n) low = omega (arith, sum_by-cons f n (numbers_below n), sum-few f n low, low n)

-- a sector that wasn't free became free
pub freed-one : (old new : Sector) (p : Place) → ¬ (IsFree old p) → IsGiven old new p
    → IsFreedMap old new (λ q. p ≡ q)
freed-one old new p taken given = record {
  marked = λ q. elim (same_or_other p q) [
    | inl one ↦ (λ f. inr one, λ h. subst (λ x. map_bit new x.track x.sector ≡ 1) one given.bit)
    | inr ne ↦
        let same : map_bit new q.track q.sector ≡ map_bit old q.track q.sector =
        given.rest.bits q.track q.sector (in-bits q.track q.sector q.on_disk) (apart-place p q ne) in (
          λ f. inl (sym same ∙ f),
          λ h. elim h [ inl f ↦ same ∙ f | inr e ↦ absurd (ne e) ],
        )
  ];
  counts = λ right t lo hi. elim (cases_eq t p.track) [
    | inl i ↦
        let was : map_bit old p.track p.sector ≡ 0 = elim (cases_eq (map_bit old p.track p.sector) 1) [
          | inl e ↦ absurd (taken e)
          | inr ne ↦ omega (arith, ne, bit-low old p.track p.sector)
        ] in
        let more = sum-less (map_bit new p.track) (map_bit old p.track) (sectors_on p.track) p.sector p.on_disk
        (given.bit ∙ sym (ap (λ n. n + 1) was))
        (λ k lt ne. given.rest.bits p.track k (in-bits p.track k lt) (inr ne)) in
        let before = right p.track (omega (arith, i, lo)) (omega (arith, i, hi)) in
        let few = sum-few (map_bit old p.track) (sectors_on p.track) (bit-low old p.track) in
        rw i (omega (arith, more, before, given.count, few, few_sectors p.track))
    | inr n ↦ given.rest.counts t n ∙ right t lo hi ∙ sum-same (map_bit old t) (map_bit new t) (sectors_on t)
        (λ k lt. sym (given.rest.bits t k (in-bits t k lt) (inl n)))
  ];
  header = given.rest.header;
}

-- sectors that are free, or none, are freed by nothing
pub freed-none : (old new : Sector) (Q : Place → Type 0) → ((p : Place) → Q p → IsFree old p) → new ≡ old
    → IsFreedMap old new Q
freed-none old new Q free same = record {
  marked = λ p. (
    λ f. inl (subst (λ x. IsFree x p) same f),
    λ h. subst (λ x. IsFree x p) (sym same) (elim h [ inl f ↦ f | inr q ↦ free p q ]),
  );
  counts = λ right. subst HasCounts (sym same) right;
  header = (rw same refl, rw same refl);
}

-- the same sectors, said otherwise
pub freed-as : (old new : Sector) (Q R : Place → Type 0) → ((p : Place) → Q p ↔ R p) → IsFreedMap old new Q
    → IsFreedMap old new R
freed-as old new Q R same h = record {
  marked = λ p. (
    λ f. elim ((h.marked p).0 f) [ inl was ↦ inl was | inr q ↦ inr ((same p).0 q) ],
    λ d. (h.marked p).1 (elim d [ inl was ↦ inl was | inr r ↦ inr ((same p).1 r) ]),
  );
  counts = h.counts;
  header = h.header;
}

-- these, and then others
pub freed-then : (a b c : Sector) (Q R : Place → Type 0) → IsFreedMap a b Q → IsFreedMap b c R
    → IsFreedMap a c (λ p. Q p ⊎ R p)
freed-then a b c Q R h k = record {
  marked = λ p. (
    λ f. elim ((k.marked p).0 f) [
      | inl was ↦ elim ((h.marked p).0 was) [ inl first ↦ inl first | inr q ↦ inr (inl q) ]
      | inr r ↦ inr (inr r)
    ],
    λ d. (k.marked p).1 (elim d [
      | inl was ↦ inl ((h.marked p).1 (inl was))
      | inr e ↦ elim e [ inl q ↦ inl ((h.marked p).1 (inr q)) | inr r ↦ inr r ]
    ]),
  );
  counts = λ right. k.counts (h.counts right);
  header = (k.header.0 ∙ h.header.0, k.header.1 ∙ h.header.1);
}

-- one of the sectors with Q
pub freed-here : (old new : Sector) (p : Place) (Q : Place → Type 0) → Q p → IsFreedMap old new (λ q. p ≡ q)
    → IsFreedMap old new (λ q. (p ≡ q) × Q q)
freed-here old new p Q here = freed-as old new (λ q. p ≡ q) (λ q. (p ≡ q) × Q q)
    (λ q. (λ e. (e, subst Q e here), λ h. h.0))

-- whether it was free or not
pub freed-given : (old new : Sector) (p : Place) (Q : Place → Type 0) → Q p → (¬ (IsFree old p) → IsGiven old new p)
    → (IsFree old p → new ≡ old) → IsFreedMap old new (λ q. (p ≡ q) × Q q)
freed-given old new p Q here taken free = elim (cases_eq (map_bit old p.track p.sector) 1) [
  | inl f ↦ freed-none old new (λ q. (p ≡ q) × Q q) (λ q h. subst (IsFree old) h.0 f) (free f)
  | inr ne ↦ freed-here old new p Q here (freed-one old new p ne (taken ne))
]

-- those so far, by their places in an image: none, one more, and all
pub freed-start : (old : Sector) (Q : Place → Type 0) → IsFreedMap old old (λ p. (index_of p < 0) × Q p)
freed-start old Q = freed-none old old (λ p. (index_of p < 0) × Q p) (λ p h. absurd (omega (arith, h.0))) refl

pub freed-more : (a b c : Sector) (n : ℕ) (q : Place) (Q : Place → Type 0) → index_of q ≡ n
    → IsFreedMap a b (λ p. (index_of p < n) × Q p) → IsFreedMap b c (λ p. (q ≡ p) × Q p)
    → IsFreedMap a c (λ p. (index_of p < n + 1) × Q p)
freed-more a b c n q Q at h k = freed-as a c (λ p. ((index_of p < n) × Q p) ⊎ ((q ≡ p) × Q p))
    (λ p. (index_of p < n + 1) × Q p)
    (λ p. (
      λ d. elim d [
        | inl low ↦ (omega (arith, low.0), low.1)
        | inr e ↦ (omega (arith, at, ap index_of e.0), e.1)
      ],
      λ d. elim (dec_lt (index_of p) n) [
        | yes low ↦ inl (low, d.1)
        | no high ↦ inr (same_index q p (omega (arith, at, high, d.0)), d.1)
      ],
    ))
    (freed-then a b c (λ p. (index_of p < n) × Q p) (λ p. (q ≡ p) × Q p) h k)

pub freed-all : (a b : Sector) (n : ℕ) (Q : Place → Type 0) → 683 ≤ n → IsFreedMap a b (λ p. (index_of p < n) × Q p)
    → IsFreedMap a b Q
freed-all a b n Q all = freed-as a b (λ p. (index_of p < n) × Q p) Q
    (λ p. (λ h. h.1, λ q. (omega (arith, index_below p, all), q)))

-- The map of what l owns, and of strays that nobody owns, becomes that of what m owns, which is less, and of the strays.
pub freed-map : (old new : Sector) (l m : Layout) (strays : List Place)
    → ((p : Place) → Contains (map_place ∷ owners l) p ⊎ (¬ (Contains (map_place ∷ owners l) p)))
    → ((p : Place) → Contains (map_place ∷ owners m) p → Contains (map_place ∷ owners l) p)
    → ((p : Place) → Contains strays p → ¬ (Contains (map_place ∷ owners l) p)) → IsFreedMap old new (IsLeft l m)
    → IsMapOf old (strays ++ map_place ∷ owners l) → IsMapOf new (strays ++ map_place ∷ owners m)
freed-map old new l m strays owned less apart freed map = record {
  marked = λ p. (
    λ f c. elim ((freed.marked p).0 f) [
      | inl was ↦ (map.marked p).0 was (elim (Contains-append_cases strays (map_place ∷ owners m) p c) [
        | inl d ↦ Contains-append_left strays (map_place ∷ owners l) p d
        | inr d ↦ Contains-append_right strays (map_place ∷ owners l) p (less p d)
      ])
      | inr left ↦ elim (Contains-append_cases strays (map_place ∷ owners m) p c) [
        | inl d ↦ apart p d left.0
        | inr d ↦ left.1 d
      ]
    ],
    λ none. (freed.marked p).1 (elim (owned p) [
      | inl own ↦ inr (own, λ d. none (Contains-append_right strays (map_place ∷ owners m) p d))
      | inr out ↦ inl ((map.marked p).1 (λ c. elim (Contains-append_cases strays (map_place ∷ owners l) p c) [
        | inl d ↦ none (Contains-append_left strays (map_place ∷ owners m) p d)
        | inr d ↦ out d
      ]))
    ]),
  );
  counts = freed.counts map.counts;
}
