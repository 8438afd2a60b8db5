-- Each sector is drawn with the one owner that it is drawn as, and once there.
use Rattle.std.proofs.Common.{◌≡◌, ◌≢◌, ◌<◌, ◌≤◌, ◌⊎◌, inl, inr, ◌+◌, ℕ, suc, Bool, true, false, List, [], ◌∷◌, drop}
use Rattle.std.proofs.Common.{take, refl, subst, sym, ap, ◌∙◌, arith}
use Rattle.std.specs.Prelude.{Contains, Some, if◌then◌else◌, nat_eq, nat_lt, slice_get}
use Rattle.std.specs.List.{AllByRecursion}
use Rattle.std.proofs.lemmas.Bool.{and_parts, eq-eqb, eqb-true, false≢true, ltb-false, ltb-true}
use Rattle.std.proofs.lemmas.List.{take-append-drop}
use Rattle.std.proofs.lemmas.List.Folds.{list_any_at}
use Rattle.std.proofs.lemmas.Map.Views.{Contains-from_any}
use Rattle.d64_image.proofs.Places.{same_place}
use Rattle.d64_image.specs.Images.{Image}
use Rattle.d64_image.specs.declared.place.Place.{Place}
use Rattle.disk_layout.proofs.lemmas.lists.Once.{Contains-cases, Contains-nil, EachOnce-left}
use Rattle.disk_layout.specs.Chain.{EachOnce}
use Rattle.disk_layout.specs.Directory.{map_place, type_byte}
use Rattle.disk_layout.specs.Layout.{File, Layout, is_rel}
use Rattle.disk_pictures.specs.Drawings.{GoesFrom, IsDrawn, IsDrawnFile, IsDrawnOnce, has, is_place, owner_among}
use Rattle.disk_pictures.specs.Drawings.{owner_of}
use Rattle.disk_pictures.specs.declared.owners.Owner.{Owner}
use Rattle.disk_pictures.specs.declared.owners.Owner.TheVariants as owner

place-is : (p q : Place) → is_place p q ≡ true → p ≡ q
place-is p q e =
    let parts = and_parts (nat_eq q.track p.track) (nat_eq q.sector p.sector) e in
    same_place p q (sym (eqb-true q.track p.track parts.0)) (sym (eqb-true q.sector p.sector parts.1))

place-self : (p : Place) → is_place p p ≡ true
place-self p = rw (eq-eqb p.track p.track refl, eq-eqb p.sector p.sector refl) refl

pub has-there : (ps : List Place) (p : Place) → has ps p ≡ true → Contains ps p
unfolding has
has-there ps p e = Contains-from_any {eq = is_place} place-is p ps e

pub there-has : (ps : List Place) (p : Place) → Contains ps p → has ps p ≡ true
unfolding has
there-has ps p (i, lt, e) = list_any_at (is_place p) ps i p lt (ap (is_place p) e ∙ place-self p)

none-there : (ps : List Place) (p : Place) → has ps p ≡ false → ¬ (Contains ps p)
none-there ps p e = λ c. false≢true (sym e ∙ there-has ps p c)

walk-once : (img : Image) (bytes : List ℕ) (i : ℕ) (ps : List Place) (u : ℕ) → GoesFrom img bytes i ps u → EachOnce ps
walk-once img bytes i ps u goes = elim goes [
  | inl (p, names, walk) ↦ walk.once
  | inr (none, empty, zero) ↦ subst (λ (qs : List Place). EachOnce qs) (sym empty) tt
]

closed-or : (n : ℕ) → (n < 128) ⊎ (128 ≤ n)
closed-or n = by (nat_lt n 128) refl
  where
    by : (b : Bool) → nat_lt n 128 ≡ b → (n < 128) ⊎ (128 ≤ n)
    by true e = inl (ltb-true n 128 e)
    by false e = inr (ltb-false n 128 e)

blocks-once : (img : Image) (f : File) → IsDrawnFile img f → EachOnce f.blocks
blocks-once img f drawn = elim (closed-or (type_byte f.slot)) [
  | inl few ↦ subst (λ (ps : List Place). EachOnce ps) (sym (drawn.unclosed few).0) tt
  | inr many ↦ walk-once img f.slot.bytes 3 f.blocks f.last (drawn.blocks many)
]

sides-once : (img : Image) (f : File) → IsDrawnFile img f → EachOnce f.sides
sides-once img f drawn = by (is_rel f.slot) refl
  where
    by : (b : Bool) → is_rel f.slot ≡ b → EachOnce f.sides
    by false e = subst (λ (ps : List Place). EachOnce ps) (sym (drawn.plain e)) tt
    by true e =
        let (ps, u, goes, part) = drawn.relative e in
        let whole = walk-once img f.slot.bytes 21 ps u goes in
        subst (λ (qs : List Place). EachOnce qs) (sym part)
        (EachOnce-left (take _ ps) (drop _ ps) (subst (λ (qs : List Place). EachOnce qs) (sym (take-append-drop _ ps))
        whole))

-- the same among entries of which the first has number k
abbrev AmongOnce : ℕ → List File → Place → Owner → Type 0
AmongOnce k fs p (owner.Blocks j) = (i : ℕ) × (j ≡ k + i) × (f : File) × (slice_get fs i ≡ Some f) × Contains f.blocks p
    × EachOnce f.blocks
AmongOnce k fs p (owner.Sides j) = (i : ℕ) × (j ≡ k + i) × (f : File) × (slice_get fs i ≡ Some f) × Contains f.sides p
    × EachOnce f.sides
AmongOnce k fs p owner.Nobody = (f : File) → Contains fs f → ¬ (Contains f.blocks p) × ¬ (Contains f.sides p)
AmongOnce k fs p owner.Map = ⊥
AmongOnce k fs p owner.Directory = ⊥

later : (k : ℕ) (f : File) (fs : List File) (p : Place) (o : Owner) → ¬ (Contains f.blocks p) → ¬ (Contains f.sides p)
    → AmongOnce (k + 1) fs p o → AmongOnce k (f ∷ fs) p o
later k f fs p (owner.Blocks j) a b (i, e, g, at, c, once) = (suc i, omega (arith, e), g, at, c, once)
later k f fs p (owner.Sides j) a b (i, e, g, at, c, once) = (suc i, omega (arith, e), g, at, c, once)
later k f fs p owner.Nobody a b rest = λ g c. elim (Contains-cases g f fs c) [
  | inl e ↦ subst (λ (h : File). ¬ (Contains h.blocks p) × ¬ (Contains h.sides p)) e (a, b)
  | inr d ↦ rest g d
]
later k f fs p owner.Map a b rest = rest
later k f fs p owner.Directory a b rest = rest

among-once : (img : Image) (k : ℕ) (fs : List File) (p : Place) → AllByRecursion (IsDrawnFile img) fs
    → AmongOnce k fs p (owner_among k fs p)
unfolding owner_among
among-once img k [] p all = λ f c. absurd (Contains-nil f c)
among-once img k (f ∷ fs) p all = by (has f.blocks p) (has f.sides p) refl refl (among-once img (k + 1) fs p all.1)
  where
    by : (b s : Bool) → has f.blocks p ≡ b → has f.sides p ≡ s → AmongOnce (k + 1) fs p (owner_among (k + 1) fs p)
        → AmongOnce k (f ∷ fs) p (if b then owner.Blocks k else (if s then owner.Sides k else owner_among (k + 1) fs p))
    by true s hb hs rest = (0, omega arith, f, refl, has-there f.blocks p hb, blocks-once img f all.0)
    by false true hb hs rest = (0, omega arith, f, refl, has-there f.sides p hs, sides-once img f all.0)
    by false false hb hs rest = later k f fs p (owner_among (k + 1) fs p) (none-there f.blocks p hb)
        (none-there f.sides p hs) rest

entry-once : (l : Layout) (p : Place) (o : Owner) → p ≢ map_place → ¬ (Contains l.directory p) → AmongOnce 0 l.files p o
    → IsDrawnOnce l p o
entry-once l p (owner.Blocks j) a b (i, e, f, at, c, once) =
    (f, subst (λ (n : ℕ). slice_get l.files n ≡ Some f) (let h : i ≡ j = omega (arith, e) in h) at, c, once)
entry-once l p (owner.Sides j) a b (i, e, f, at, c, once) =
    (f, subst (λ (n : ℕ). slice_get l.files n ≡ Some f) (let h : i ≡ j = omega (arith, e) in h) at, c, once)
entry-once l p owner.Nobody a b rest = (a, b, rest)
entry-once l p owner.Map a b rest = absurd rest
entry-once l p owner.Directory a b rest = absurd rest

pub drawn-once : (img : Image) (l : Layout) → IsDrawn img l → (p : Place) → IsDrawnOnce l p (owner_of l p)
unfolding owner_of
drawn-once img l drawn p = by (has (map_place ∷ []) p) (has l.directory p) refl refl
  where
    by : (m d : Bool) → has (map_place ∷ []) p ≡ m → has l.directory p ≡ d
        → IsDrawnOnce l p (if m then owner.Map else (if d then owner.Directory else owner_among 0 l.files p))
    by true d hm hd = elim (Contains-cases p map_place [] (has-there (map_place ∷ []) p hm)) [
      | inl e ↦ sym e
      | inr c ↦ absurd (Contains-nil p c)
    ]
    by false true hm hd = (has-there l.directory p hd, drawn.directory.chain.once)
    by false false hm hd = entry-once l p (owner_among 0 l.files p)
        (λ e. none-there (map_place ∷ []) p hm (0, omega arith, sym e)) (none-there l.directory p hd)
        (among-once img 0 l.files p drawn.files)
