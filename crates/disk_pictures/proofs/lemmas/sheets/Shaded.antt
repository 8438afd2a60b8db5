-- The shades of a small drawing: none is 29 or more, and what the table of them leaves out isn't drawn.
use Rattle.std.proofs.Common.{◌≡◌, ◌<◌, ◌≤◌, ◌+◌, ◌-◌, ◌++◌, ◌∙◌, ℕ, zero, suc, Bool, true, false, List, [], ap, ap₂, arith, get_or, inl, inr}
use Rattle.std.proofs.Common.{get_or-set_other, get_or-set_same, length, ne_eqb, refl, set, subst, sym}
use Rattle.std.specs.Prelude.{None, Option, Some, if◌then◌else◌, nat_eq}
use Rattle.std.proofs.lemmas.Bool.{cases_eq, false≢true}
use Rattle.d64_image.proofs.Order.{each-more, each-place}
use Rattle.d64_image.proofs.Places.{place_at-some}
use Rattle.d64_image.specs.Images.{Sector}
use Rattle.d64_image.specs.Places.{index_of, place_at}
use Rattle.d64_image.specs.declared.place.Place.{Place}
use Rattle.disk_layout.specs.Layout.{Layout}
use Rattle.disk_layout.specs.declared.faults.Fault.{Fault}
use Rattle.disk_pictures.specs.Drawings.{owner_of}
use Rattle.disk_pictures.specs.Shades.{HasEach, has_shade}
use Rattle.disk_pictures.specs.Sheets.{own_stroke, owner_shade, shade, stroke}
use Rattle.disk_pictures.specs.Texts.{at_place, each_below, is_fault_at, is_free}
use Rattle.disk_pictures.specs.declared.owners.Owner.{Owner}
use Rattle.disk_pictures.specs.declared.owners.Owner.TheVariants as owner
use Rattle.disk_pictures.specs.declared.sheets.shades.Shades.{Shades}

free-shade : (b : Bool) → (if b then 3 else 4) < 29
free-shade true = omega arith
free-shade false = omega arith

owner-shade : (map : Sector) (p : Place) (o : Owner) → owner_shade map p o < 29
owner-shade map p owner.Map = omega arith
owner-shade map p owner.Directory = omega arith
owner-shade map p (owner.Blocks k) = omega arith
owner-shade map p (owner.Sides k) = omega arith
owner-shade map p owner.Nobody = free-shade (is_free map p)

-- a mark that is set stays
pub mark-kept : (marks : List Bool) (i j : ℕ) → i < length marks → get_or marks j false ≡ true
    → get_or (set marks i true) j false ≡ true
mark-kept marks i j inside was = elim (cases_eq i j) [
  | inl e ↦ subst (λ k. get_or (set marks i true) k false ≡ true) e (get_or-set_same marks i true false inside)
  | inr other ↦ get_or-set_other marks i j true false (λ e. other (sym e)) ∙ was
]

module _ (v : Option Fault) (map : Sector) (l : Layout) where
  pub low-shade : (p : Place) → shade v map l p < 29
  low-shade p = by (is_fault_at v p)
    where
      by : (b : Bool) → (if b then 0 else owner_shade map p (owner_of l p)) < 29
      by true = omega arith
      by false = owner-shade map p (owner_of l p)

  -- the shade of one sector more
  pub shade-more : (old new : Shades) (i : ℕ) (p : Place) (track n : ℕ) → index_of p ≡ i → track ≡ p.track
      → n ≡ shade v map l p → ((q : Place) → index_of q < i → has_shade old (q.track - 1) (shade v map l q) ≡ true)
      → ((b n : ℕ) → has_shade old b n ≡ true → has_shade new b n ≡ true)
      → has_shade new (track - 1) n ≡ true
      → (q : Place) → index_of q < i + 1 → has_shade new (q.track - 1) (shade v map l q) ≡ true
  shade-more old new i p track n at on is before kept now =
      each-more (λ q. has_shade new (q.track - 1) (shade v map l q) ≡ true) i p at
      (λ q lt. kept (q.track - 1) (shade v map l q) (before q lt))
      (subst (λ (m : ℕ). has_shade new (p.track - 1) m ≡ true) is
      (subst (λ (t : ℕ). has_shade new (t - 1) n ≡ true) on now))

  -- and of all
  pub all-shades : (s : Shades) (i : ℕ) → 683 ≤ i
      → ((p : Place) → index_of p < i → has_shade s (p.track - 1) (shade v map l p) ≡ true) → HasEach s (shade v map l)
  all-shades s i all each p below on =
      let at : p.track - 1 ≡ below = omega (arith, on) in
      subst (λ (b : ℕ). has_shade s b (shade v map l p) ≡ true) at
      (each-place (λ q. has_shade s (q.track - 1) (shade v map l q) ≡ true) i all each p)

  unset : (s : Shades) (below n : ℕ) → HasEach s (shade v map l) → has_shade s below n ≡ false
      → (p : Place) → p.track ≡ below + 1 → nat_eq (shade v map l p) n ≡ false
  unset s below n each missing p on = ne_eqb (shade v map l p) n
      (λ e. false≢true (sym missing ∙ sym (ap (has_shade s below) e) ∙ each p below on))

  none-at : (n : ℕ) (t s : ℕ) (o : Option Place) → place_at t s ≡ o
      → ((p : Place) → p.track ≡ t → nat_eq (shade v map l p) n ≡ false) → at_place (own_stroke v map l n) o ≡ []
  none-at n t s None is none = refl
  none-at n t s (Some p) is none =
      ap (λ (b : Bool). if b then stroke p else []) (none p (place_at-some t s p is).0)

  none-below : (n t m : ℕ) → ((p : Place) → p.track ≡ t → nat_eq (shade v map l p) n ≡ false)
      → each_below m (λ s. at_place (own_stroke v map l n) (place_at t s)) ≡ []
  unfolding each_below
  none-below n t zero none = refl
  none-below n t (suc m) none =
      ap₂ (λ (xs ys : List ℕ). xs ++ ys) (none-below n t m none) (none-at n t m (place_at t m) refl none)

  -- a shade that the table hasn't for a track has no strokes there
  pub no-strokes : (s : Shades) (below n : ℕ) → HasEach s (shade v map l) → has_shade s below n ≡ false
      → each_below 21 (λ s. at_place (own_stroke v map l n) (place_at (below + 1) s)) ≡ []
  no-strokes s below n each missing = none-below n (below + 1) 21 (unset s below n each missing)
