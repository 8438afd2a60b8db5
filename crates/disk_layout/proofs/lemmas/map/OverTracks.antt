-- Sums over the tracks of a disk but the directory's.
use Rattle.std.proofs.Common.{Bool, ap, arith, cond, false, inl, inr, refl}
use Rattle.std.proofs.Common.{subst, sym, true, ℕ, ◌+◌, ◌-◌, ◌<◌, ◌∙◌, ◌≡◌, ◌≢◌, ◌≤◌}
use Rattle.std.proofs.lemmas.Bool.{cases_eq}
use Rattle.std.proofs.lemmas.Bool.Decides.{nat_tests}
use Rattle.std.specs.Prelude.{nat_eq, sum_by, ◌&&◌}
use Rattle.d64_image.proofs.Places.{same_place, track_fits, track_from_1}
use Rattle.d64_image.specs.Geometry.{sectors_on}
use Rattle.d64_image.specs.declared.place.Place.{Place}
use Rattle.disk_layout.proofs.lemmas.lists.Sums.{sum-less, sum-plus, sum-same, sum-zero}
use Rattle.disk_layout.specs.Map.{numbers_below}

-- a sum over the sectors of the first n tracks, track 18 left out
unfoldable pub over : ℕ → (ℕ → ℕ → ℕ) → ℕ
over n f = sum_by (λ k. cond (nat_eq (k + 1) 18) 0 (sum_by (f (k + 1)) (numbers_below (sectors_on (k + 1)))))
    (numbers_below n)

pub off-18 : (t x y : ℕ) → (t ≢ 18 → x ≡ y) → cond (nat_eq t 18) 0 x ≡ cond (nat_eq t 18) 0 y
off-18 t x y h = elim (cases_eq t 18) [ inl e ↦ rw e refl | inr ne ↦ ap (cond (nat_eq t 18) 0) (h ne) ]

none-18 : (t x : ℕ) → (t ≢ 18 → x ≡ 0) → cond (nat_eq t 18) 0 x ≡ 0
none-18 t x h = elim (cases_eq t 18) [ inl e ↦ rw e refl | inr ne ↦ let z = h ne in grind (arith, nat_tests) ]

pub over-same : (n : ℕ) (f g : ℕ → ℕ → ℕ) → ((t s : ℕ) → t ≤ n → t ≢ 18 → s < sectors_on t → f t s ≡ g t s)
    → over n f ≡ over n g
unfolding over
over-same n f g e =
    sum-same _ _ n (λ k lt. off-18 (k + 1) _ _ (λ ne. sum-same (f (k + 1)) (g (k + 1)) (sectors_on (k + 1))
    (λ s on. e (k + 1) s (omega (arith, lt)) ne on)))

pub over-plus : (n : ℕ) (f g : ℕ → ℕ → ℕ) → over n (λ t s. f t s + g t s) ≡ over n f + over n g
unfolding over
over-plus n f g =
    sum-same _ _ n (λ k lt. off-18 (k + 1) _ _ (λ ne. sum-plus (f (k + 1)) (g (k + 1)) (sectors_on (k + 1)))
    ∙ both (nat_eq (k + 1) 18) _ _)
    ∙ sum-plus (λ k. cond (nat_eq (k + 1) 18) 0 (sum_by (f (k + 1)) (numbers_below (sectors_on (k + 1)))))
    (λ k. cond (nat_eq (k + 1) 18) 0 (sum_by (g (k + 1)) (numbers_below (sectors_on (k + 1))))) n
  where
    both : (b : Bool) (x y : ℕ) → cond b 0 (x + y) ≡ cond b 0 x + cond b 0 y
    both true x y = omega arith
    both false x y = refl

-- 1 at a place, else 0
unfoldable pub at : Place → ℕ → ℕ → ℕ
at p t s = cond (nat_eq p.track t && nat_eq p.sector s) 1 0

pub at-here : (p : Place) → at p p.track p.sector ≡ 1
unfolding at
at-here p = grind (arith, nat_tests)

pub at-track : (p : Place) (t s : ℕ) → t ≢ p.track → at p t s ≡ 0
unfolding at
at-track p t s ne = grind (arith, nat_tests)

at-sector : (p : Place) (t s : ℕ) → s ≢ p.sector → at p t s ≡ 0
unfolding at
at-sector p t s ne = grind (arith, nat_tests)

pub at-other : (p q : Place) → p ≢ q → at p q.track q.sector ≡ 0
at-other p q ne = elim (cases_eq q.track p.track) [
  | inr off ↦ at-track p q.track q.sector off
  | inl t ↦ elim (cases_eq q.sector p.sector) [
    | inr off ↦ at-sector p q.track q.sector off
    | inl s ↦ absurd (ne (same_place p q (sym t) (sym s)))
  ]
]

pub over-none : (n : ℕ) (f : ℕ → ℕ → ℕ) → ((t s : ℕ) → t ≢ 18 → f t s ≡ 0) → over n f ≡ 0
unfolding over
over-none n f none =
    sum-zero _ n (λ k lt. none-18 (k + 1) _ (λ ne. sum-zero (f (k + 1)) (sectors_on (k + 1))
    (λ s on. none (k + 1) s ne)))

pub over-at : (p : Place) → p.track ≢ 18 → over 35 (at p) ≡ 1
unfolding over
over-at p off =
    sum-less _ (λ k. 0) 35 (p.track - 1) (omega (arith, track_fits p, track_from_1 p)) here there
    ∙ ap (λ n. n + 1) (sum-zero (λ k. 0) 35 (λ k lt. refl))
  where
    on : p.track - 1 + 1 ≡ p.track
    on = omega (arith, track_from_1 p)

    outside : (t x : ℕ) → t ≢ 18 → cond (nat_eq t 18) 0 x ≡ x
    outside t x ne = grind (arith, nat_tests)

    here : cond (nat_eq (p.track - 1 + 1) 18) 0
        (sum_by (at p (p.track - 1 + 1)) (numbers_below (sectors_on (p.track - 1 + 1)))) ≡ 0 + 1
    here =
        let P : ℕ → Type 0 = λ t. cond (nat_eq t 18) 0 (sum_by (at p t) (numbers_below (sectors_on t))) ≡ 0 + 1 in
        subst P (sym on) (outside p.track _ off
        ∙ sum-less (at p p.track) (λ s. 0) (sectors_on p.track) p.sector p.on_disk (at-here p)
        (λ s lt ne. at-sector p p.track s ne)
        ∙ ap (λ n. n + 1) (sum-zero (λ s. 0) (sectors_on p.track) (λ s lt. refl)))

    there : (k : ℕ) → k < 35 → k ≢ p.track - 1
        → cond (nat_eq (k + 1) 18) 0 (sum_by (at p (k + 1)) (numbers_below (sectors_on (k + 1)))) ≡ 0
    there k lt ne =
        none-18 (k + 1) _ (λ off. sum-zero (at p (k + 1)) (sectors_on (k + 1))
        (λ s on. at-track p (k + 1) s (omega (arith, ne, track_from_1 p))))

-- 664 sectors are outside track 18
pub over-all : over 35 (λ t s. 1) ≡ 664
unfolding over
over-all = refl
