-- Whether one of some entries shows a fault, and whether one of all tracks is counted wrong.
use Rattle.std.proofs.Common.{◌≡◌, ◌⊎◌, ◌+◌, ◌<◌, ◌≤◌, ℕ, List, Some, ap, arith, inl, inr, subst, sym, ◌∙◌}
use Rattle.std.specs.Prelude.{slice_get}
use Rattle.d64_image.specs.Images.{Sector}
use Rattle.disk_layout.specs.Map.{map_count}
use Rattle.disk_layout.specs.declared.faults.Fault.{Fault}
use Rattle.layout_check.specs.Marked.{ones_on}
use Rattle.disk_reports.specs.Trails.{Shows}
use Rattle.disk_reports.specs.declared.trail.Trail.{Trail}

one-of-two : (j n : ℕ) → j < n + 1 → (j < n) ⊎ (j ≡ n)
one-of-two j n low = grind arith

inner : {X : Type 0} (x y : X) → Some x ≡ Some y → x ≡ y
inner x y e = cc

-- none of those before, nor this one
pub none-later : (ts : List Trail) (n : ℕ) (q : Trail) (f : Fault) → slice_get ts n ≡ Some q → ¬ (Shows q f)
    → ((k : ℕ) → k < n → (t : Trail) → slice_get ts k ≡ Some t → ¬ (Shows t f)) → (k : ℕ) → k < n + 1 → (t : Trail)
    → slice_get ts k ≡ Some t → ¬ (Shows t f)
none-later ts n q f there hasnt before k low t at = elim (one-of-two k n low) [
  | inl old ↦ before k old t at
  | inr e ↦
      let same : q ≡ t = inner q t (sym there ∙ ap (λ (j : ℕ). slice_get ts j) (sym e) ∙ at) in
      subst (λ (x : Trail). ¬ (Shows x f)) same hasnt
]

-- the tracks before are counted right, and this one
pub counted-later : (bytes : Sector) (n : ℕ) → map_count bytes (n + 1) ≡ ones_on bytes (n + 1)
    → ((t : ℕ) → 1 ≤ t → t ≤ n → map_count bytes t ≡ ones_on bytes t) → (t : ℕ) → 1 ≤ t → t ≤ n + 1
    → map_count bytes t ≡ ones_on bytes t
counted-later bytes n here before t low high = elim (one-of-two t (n + 1) (omega (arith, high))) [
  | inl old ↦ before t low (omega (arith, old))
  | inr e ↦ subst (λ (k : ℕ). map_count bytes k ≡ ones_on bytes k) (sym e) here
]
