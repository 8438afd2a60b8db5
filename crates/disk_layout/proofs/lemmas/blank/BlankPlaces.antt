-- The places that the blank image's files own: each once, and exactly those that its map calls taken.
use Rattle.std.proofs.Common.{
  List,
  [],
  ap,
  arith,
  inl,
  inr,
  length,
  lit<,
  min,
  refl,
  sym,
  zero,
  suc,
  ℕ,
  ◌++◌,
  ◌+◌,
  ◌-◌,
  ◌<◌,
  ◌∙◌,
  ◌∷◌,
  ◌≡◌,
  ◌≢◌,
  ◌≤◌,
  ◌⊎◌,
}
use Rattle.std.proofs.lemmas.Bool.{cases_eq}
use Rattle.std.proofs.lemmas.Bool.Decides.{nat_tests}
use Rattle.std.proofs.lemmas.List.Elements.{Contains-append_cases, Contains-append_left, Contains-append_right}
use Rattle.std.specs.Prelude.{Contains, Some, slice_get}
use Rattle.d64_image.proofs.Places.{same_place}
use Rattle.d64_image.specs.declared.place.Place.{Place}
use Rattle.disk_layout.proofs.lemmas.blank.Blanks.{number_at, request-number}
use Rattle.disk_layout.proofs.lemmas.layouts.Exact.{get-lt}
use Rattle.disk_layout.proofs.lemmas.layouts.Layouts.{get-contains}
use Rattle.disk_layout.proofs.lemmas.lists.Lists.{contains-get, get-some, numbered-once}
use Rattle.disk_layout.proofs.lemmas.lists.Once.{Contains-cases, Contains-here, Contains-nil, Contains-there}
use Rattle.disk_layout.proofs.lemmas.lists.Once.{EachOnce-push}
use Rattle.disk_layout.specs.Blank.{
  AreRequestPlaces,
  IsRequestPlace,
  request_sector,
  request_track,
  requests_block,
  requests_side,
  stock_block,
  stock_side,
  taken_on,
}
use Rattle.disk_layout.specs.Chain.{EachOnce}
use Rattle.disk_layout.specs.Directory.{directory_start, map_place}

-- what the directory and the files own, the map aside
abbrev pub blank_owners : List Place → List Place
blank_owners blocks = directory_start ∷ stock_block ∷ stock_side ∷ (blocks ++ requests_side ∷ [])

abbrev file_owners : List Place → List Place
file_owners blocks = stock_block ∷ stock_side ∷ (blocks ++ requests_side ∷ [])

abbrev side_owners : List Place → List Place
side_owners blocks = stock_side ∷ (blocks ++ requests_side ∷ [])

abbrev last_owners : List Place → List Place
last_owners blocks = blocks ++ requests_side ∷ []

-- a place of a lower number is not at the front
past : (x y : Place) (ys : List Place) → number_at x.track x.sector < number_at y.track y.sector → ¬ (Contains ys x)
    → ¬ (Contains (y ∷ ys) x)
past x y ys lt out c = elim (Contains-cases x y ys c) [
  | inl e ↦ omega (arith, lt, ap (λ (p : Place). number_at p.track p.sector) e)
  | inr d ↦ out d
]

-- which sectors are taken
request-taken : (n k : ℕ) → k < n → request_sector k < taken_on n (request_track k)
request-taken n k lt = grind (arith, nat_tests)

on-17 : (n s : ℕ) → 1 ≤ n → s < min (n + 3) 21 → ((s ≡ 0) ⊎ ((s ≡ 1) ⊎ (s ≡ 3)))
    ⊎ ((k : ℕ) × (k < n) × (17 ≡ request_track k) × (s ≡ request_sector k))
on-17 n zero some h = inl (inl refl)
on-17 n (suc zero) some h = inl (inr (inl refl))
on-17 n (suc (suc zero)) some h = inr (0, omega arith, refl, refl)
on-17 n (suc (suc (suc zero))) some h = inl (inr (inr refl))
on-17 n (suc (suc (suc (suc s)))) some h =
    let lt : suc s < 18 = omega arith in
    let ge : ¬ (suc s < 1) = λ x. omega (arith, x) in
    inr (suc s, omega arith, grind (arith, nat_tests), grind (arith, nat_tests))

on-19 : (n s : ℕ) → s < n - 18 → (k : ℕ) × (k < n) × (19 ≡ request_track k) × (s ≡ request_sector k)
on-19 n s h = (s + 18, omega arith, grind (arith, nat_tests), grind (arith, nat_tests))

taken-cases : (n t s : ℕ) → 1 ≤ n → s < taken_on n t → ((t ≡ 18) × ((s ≡ 0) ⊎ (s ≡ 1)))
    ⊎ (((t ≡ 17) × ((s ≡ 0) ⊎ ((s ≡ 1) ⊎ (s ≡ 3))))
    ⊎ ((k : ℕ) × (k < n) × ((t ≡ request_track k) × (s ≡ request_sector k))))
taken-cases n t s some h = elim (cases_eq t 17) [
  | inl e ↦ elim (on-17 n s some (rw e at h)) [
    | inl z ↦ inr (inl (e, z))
    | inr z ↦ inr (inr (z.0, z.1, (e ∙ z.2, z.3)))
  ]
  | inr a ↦ elim (cases_eq t 18) [
    | inl e ↦ let two : s < 2 = rw e at h in inl (e, small s two)
    | inr b ↦ elim (cases_eq t 19) [
      | inl e ↦ let z = on-19 n s (rw e at h) in inr (inr (z.0, z.1, (e ∙ z.2, z.3)))
      | inr c ↦ absurd (nothing h a b c)
    ]
  ]
]
  where
    small : (s : ℕ) → s < 2 → (s ≡ 0) ⊎ (s ≡ 1)
    small zero h = inl refl
    small (suc zero) h = inr refl
    small (suc (suc s)) h = absurd (omega arith)

    nothing : s < taken_on n t → t ≢ 17 → t ≢ 18 → t ≢ 19 → ⊥
    nothing h a b c = let e : taken_on n t ≡ 0 = grind (arith, nat_tests) in omega (arith, e, h)

module _ (blocks : List Place) (n : ℕ) (are : AreRequestPlaces blocks n) where
  block-number : (k : ℕ) (p : Place) → slice_get blocks k ≡ Some p → number_at p.track p.sector ≡ 5 + k
  block-number k p at =
      let here = are.each k p at in
      rw (here.0, here.1) (request-number k ∙ omega arith)

  in-block : (p : Place) → Contains blocks p → 5 ≤ number_at p.track p.sector
  in-block p c = let (k, g) = contains-get blocks p c in omega (arith, block-number k p g)

  -- below all blocks
  low : (x : Place) → number_at x.track x.sector < 4 → ¬ (Contains (blocks ++ requests_side ∷ []) x)
  low x lt c = elim (Contains-append_cases blocks (requests_side ∷ []) x c) [
    | inl d ↦ omega (arith, lt, in-block x d)
    | inr d ↦ past x requests_side [] lt (Contains-nil x) d
  ]

  pub blank-once : EachOnce (map_place ∷ blank_owners blocks)
  blank-once =
      let ends : EachOnce (blocks ++ requests_side ∷ []) =
      EachOnce-push blocks requests_side (numbered-once (λ (p : Place). number_at p.track p.sector) 5 blocks
      block-number) (λ c. let h : 5 ≤ 4 = in-block requests_side c in omega (arith, h)) in (
        past map_place directory_start (file_owners blocks) (lit< tt) (past map_place stock_block (side_owners blocks)
            (lit< tt) (past map_place stock_side (last_owners blocks) (lit< tt) (low map_place (lit< tt)))),
        (
          past directory_start stock_block (side_owners blocks) (lit< tt)
              (past directory_start stock_side (last_owners blocks) (lit< tt) (low directory_start (lit< tt))),
          (
            past stock_block stock_side (last_owners blocks) (lit< tt) (low stock_block (lit< tt)),
            (low stock_side (lit< tt), ends),
          ),
        ),
      )

  pub blank-first : 1 ≤ n → (rest : List Place) × (blocks ≡ requests_block ∷ rest)
  blank-first h = first blocks are.count are.each
    where
      first : (ps : List Place) → length ps ≡ n → ((k : ℕ) (p : Place) → slice_get ps k ≡ Some p → IsRequestPlace k p)
          → (rest : List Place) × (ps ≡ requests_block ∷ rest)
      first [] e each = absurd (omega (arith, e))
      first (p ∷ ps) e each =
          let here = each 0 p refl in
          (ps, ap (λ q. q ∷ ps) (same_place p requests_block here.0 here.1))

  -- each of these places is taken in the map
  pub owned-taken : 1 ≤ n → (p : Place) → Contains (map_place ∷ blank_owners blocks) p → p.sector < taken_on n p.track
  owned-taken some p c = elim (Contains-cases p map_place (blank_owners blocks) c) [
    | inl e ↦ rw (← e) (lit< tt)
    | inr c ↦ elim (Contains-cases p directory_start (file_owners blocks) c) [
      | inl e ↦ rw (← e) (lit< tt)
      | inr c ↦ elim (Contains-cases p stock_block (side_owners blocks) c) [
        | inl e ↦ rw (← e) (few 0 (lit< tt))
        | inr c ↦ elim (Contains-cases p stock_side (last_owners blocks) c) [
          | inl e ↦ rw (← e) (few 1 (lit< tt))
          | inr c ↦ elim (Contains-append_cases blocks (requests_side ∷ []) p c) [
            | inl d ↦ let (k, g) = contains-get blocks p d in block k p g
            | inr d ↦ elim (Contains-cases p requests_side [] d) [
              | inl e ↦ rw (← e) (few 3 (lit< tt))
              | inr d ↦ absurd (Contains-nil p d)
            ]
          ]
        ]
      ]
    ]
  ]
    where
      few : (s : ℕ) → s < 4 → s < min (n + 3) 21
      few s h = omega arith

      block : (k : ℕ) (p : Place) → slice_get blocks k ≡ Some p → p.sector < taken_on n p.track
      block k p g =
          let here = are.each k p g in
          rw (here.0, here.1) (request-taken n k (omega (arith, get-lt blocks k p g, are.count)))

  -- and no other is
  pub taken-owned : 1 ≤ n → (p : Place) → p.sector < taken_on n p.track → Contains (map_place ∷ blank_owners blocks) p
  taken-owned some p lt = elim (taken-cases n p.track p.sector some lt) [
    | inl z ↦ elim z.1 [
      | inl s ↦ rw (same_place p map_place z.0 s) (Contains-here map_place (blank_owners blocks))
      | inr s ↦ rw (same_place p directory_start z.0 s) (Contains-there directory_start map_place (blank_owners blocks)
          (Contains-here directory_start (file_owners blocks)))
    ]
    | inr z ↦ elim z [
      | inl w ↦ elim w.1 [
        | inl s ↦ rw (same_place p stock_block w.0 s) (Contains-there stock_block map_place (blank_owners blocks)
            (Contains-there stock_block directory_start (file_owners blocks)
            (Contains-here stock_block (side_owners blocks))))
        | inr y ↦ elim y [
          | inl s ↦ rw (same_place p stock_side w.0 s)
              (behind stock_side (Contains-here stock_side (last_owners blocks)))
          | inr s ↦ rw (same_place p requests_side w.0 s)
              (behind requests_side (Contains-there requests_side stock_side (last_owners blocks)
              (Contains-append_right blocks (requests_side ∷ []) requests_side (Contains-here requests_side []))))
        ]
      ]
      | inr w ↦ block w.0 w.1 w.2
    ]
  ]
    where
      behind : (q : Place) → Contains (stock_side ∷ (blocks ++ requests_side ∷ [])) q
          → Contains (map_place ∷ blank_owners blocks) q
      behind q c = Contains-there q map_place (blank_owners blocks)
          (Contains-there q directory_start (file_owners blocks) (Contains-there q stock_block (side_owners blocks) c))

      block : (k : ℕ) → k < n → IsRequestPlace k p → Contains (map_place ∷ blank_owners blocks) p
      block k lt is =
          let (q, g) = get-some blocks k (omega (arith, lt, are.count)) in
          let there = are.each k q g in
          let same : q ≡ p = same_place q p (there.0 ∙ sym is.0) (there.1 ∙ sym is.1) in
          behind p (Contains-there p stock_side (last_owners blocks) (Contains-append_left blocks (requests_side ∷ []) p
          (rw (← same) (get-contains blocks k q g))))
