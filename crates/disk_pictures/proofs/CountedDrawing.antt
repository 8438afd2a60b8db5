-- Each sector's number stands once in a drawing by number.
use Rattle.std.proofs.Common.{◌≡◌, ◌≢◌, inl, inr, ◌+◌, ◌-◌, ℕ, Bool, true, false, List, []}
use Rattle.std.proofs.Common.{◌∷◌, refl, subst, sym, ap, ◌∙◌, arith}
use Rattle.std.specs.Prelude.{Contains, Option, Some, None, if◌then◌else◌, flat_map}
use Rattle.d64_image.proofs.Places.{other_index, place_at-self, place_at-some, same_or_other}
use Rattle.d64_image.proofs.Places.{sector_small, track_from_1, track_fits}
use Rattle.d64_image.specs.Places.{index_of, place_at}
use Rattle.d64_image.specs.declared.place.Place.{Place}
use Rattle.disk_layout.proofs.lemmas.lists.Once.{Contains-cases, Contains-here, Contains-nil, Contains-there}
use Rattle.disk_layout.specs.Chain.{EachOnce}
use Rattle.disk_pictures.proofs.Counted.{below-none}
use Rattle.disk_pictures.proofs.Counted.{below-one, hit-other, hit-same, times-append, times-cons, times-nil}
use Rattle.disk_pictures.specs.Pictures.{each_place}
use Rattle.disk_pictures.specs.Sectors.{times}
use Rattle.disk_pictures.specs.Texts.{at_place, each_below, numbered}

abbrev pub number : Place → List ℕ
number q = index_of q ∷ []

-- the number of a sector that passes a test
abbrev tested : (Place → Bool) → Place → List ℕ
tested test q = if test q then number q else []

-- how often the number of p stands in what is drawn
module _ (p : Place) where
  pub same : (q : Place) → p ≡ q → times (index_of p) (number q) ≡ 1
  same q e =
      omega (
        arith,
        times-cons (index_of p) (index_of q) [],
        times-nil (index_of p),
        hit-same (index_of p) (index_of q) (ap index_of e),
      )

  pub other : (q : Place) → p ≢ q → times (index_of p) (number q) ≡ 0
  other q ne =
      omega (
        arith,
        times-cons (index_of p) (index_of q) [],
        times-nil (index_of p),
        hit-other (index_of p) (index_of q) (other_index p q ne),
      )

  pub out : (ps : List Place) → ¬ (Contains ps p) → times (index_of p) (flat_map number ps) ≡ 0
  out [] none = times-nil (index_of p)
  out (q ∷ ps) none =
      let here = hit-other (index_of p) (index_of q) (other_index p q (λ e. none
      (subst (λ (x : Place). Contains (q ∷ ps) x) (sym e) (Contains-here q ps)))) in
      omega (
        arith,
        times-cons (index_of p) (index_of q) (flat_map number ps),
        here,
        out ps (λ c. none (Contains-there p q ps c)),
      )

  pub once : (ps : List Place) → EachOnce ps → Contains ps p → times (index_of p) (flat_map number ps) ≡ 1
  once [] each c = absurd (Contains-nil p c)
  once (q ∷ ps) each c = elim (same_or_other q p) [
    | inl e ↦ omega (
      arith,
      times-cons (index_of p) (index_of q) (flat_map number ps),
      hit-same (index_of p) (index_of q) (sym (ap index_of e)),
      out ps (subst (λ (x : Place). ¬ (Contains ps x)) e each.0),
    )
    | inr ne ↦ elim (Contains-cases p q ps c) [
      | inl e ↦ absurd (ne e)
      | inr d ↦ omega (
        arith,
        times-cons (index_of p) (index_of q) (flat_map number ps),
        hit-other (index_of p) (index_of q) (other_index p q (λ h. ne (sym h))),
        once ps each.1 d,
      )
    ]
  ]

  module _ (test : Place → Bool) where
    test-other : (q : Place) → p ≢ q → times (index_of p) (tested test q) ≡ 0
    test-other q ne = by (test q)
      where
        by : (b : Bool) → times (index_of p) (if b then number q else []) ≡ 0
        by true = other q ne
        by false = times-nil (index_of p)

    test-no : test p ≡ false → (q : Place) → times (index_of p) (tested test q) ≡ 0
    test-no fails q = elim (same_or_other p q) [
      | inl e ↦ subst (λ (x : Place). times (index_of p) (tested test x) ≡ 0) e
          (ap (λ (b : Bool). times (index_of p) (if b then number p else [])) fails ∙ times-nil (index_of p))
      | inr ne ↦ test-other q ne
    ]

    test-yes : test p ≡ true → (q : Place) → times (index_of p) (tested test q) ≡ times (index_of p) (number q)
    test-yes passes q = elim (same_or_other p q) [
      | inl e ↦ subst (λ (x : Place). times (index_of p) (tested test x) ≡ times (index_of p) (number x)) e
          (ap (λ (b : Bool). times (index_of p) (if b then number p else [])) passes)
      | inr ne ↦ test-other q ne ∙ sym (other q ne)
    ]

    pub none-of : test p ≡ false → (k : ℕ) (ps : List Place)
        → times (index_of p) (numbered (λ n q. tested test q) k ps) ≡ 0
    unfolding numbered
    none-of fails k [] = times-nil (index_of p)
    none-of fails k (q ∷ ps) =
        omega (
          arith,
          times-append (index_of p) (tested test q) (numbered (λ n q. tested test q) (k + 1) ps),
          test-no fails q,
          none-of fails (k + 1) ps,
        )

    pub all-of : test p ≡ true → (k : ℕ) (ps : List Place)
        → times (index_of p) (numbered (λ n q. tested test q) k ps) ≡ times (index_of p) (flat_map number ps)
    unfolding numbered
    all-of passes k [] = refl
    all-of passes k (q ∷ ps) =
        omega (
          arith,
          times-append (index_of p) (tested test q) (numbered (λ n q. tested test q) (k + 1) ps),
          times-append (index_of p) (number q) (flat_map number ps),
          test-yes passes q,
          all-of passes (k + 1) ps,
        )

    at-none : (o : Option Place) → ((q : Place) → o ≡ Some q → times (index_of p) (tested test q) ≡ 0)
        → times (index_of p) (at_place (tested test) o) ≡ 0
    at-none None none = times-nil (index_of p)
    at-none (Some q) none = none q refl

    pub no-place : test p ≡ false → times (index_of p) (each_place (tested test)) ≡ 0
    unfolding each_place
    no-place fails =
        below-none (index_of p) 35 _ (λ b lt. below-none (index_of p) 21 _ (λ s less. at-none (place_at (b + 1) s)
        (λ q e. test-no fails q)))

    pub one-place : test p ≡ true → times (index_of p) (each_place (tested test)) ≡ 1
    unfolding each_place
    one-place passes =
        let from = track_from_1 p in
        let fits = track_fits p in
        let track : p.track - 1 + 1 ≡ p.track = omega (arith, from) in
        below-one (index_of p) 35 (p.track - 1)
        (λ b. each_below 21 (λ s. at_place (tested test) (place_at (b + 1) s))) (omega (arith, from, fits))
        (subst (λ (t : ℕ). times (index_of p) (each_below 21 (λ s. at_place (tested test) (place_at t s))) ≡ 1)
        (sym track) on-track)
        (λ b ne. below-none (index_of p) 21 _ (λ s less. at-none (place_at (b + 1) s) (λ q e. test-other q
        (λ h. ne (omega (arith, (place_at-some (b + 1) s q e).0, ap (λ (x : Place). x.track) h))))))
      where
        on-track : times (index_of p) (each_below 21 (λ s. at_place (tested test) (place_at p.track s))) ≡ 1
        on-track = below-one (index_of p) 21 p.sector (λ s. at_place (tested test) (place_at p.track s))
            (omega (arith, sector_small p))
            (ap (λ (o : Option Place). times (index_of p) (at_place (tested test) o)) (place_at-self p)
            ∙ test-yes passes p ∙ same p refl)
            (λ s ne. at-none (place_at p.track s) (λ q e. test-other q
            (λ h. ne (omega (arith, (place_at-some p.track s q e).1, ap (λ (x : Place). x.sector) h)))))
