-- How often a sector is among others, counted one after another.
use Rattle.std.proofs.Common.{◌≡◌, ◌≢◌, ◌<◌, ◌≤◌, ◌+◌, ◌++◌, ◌∷◌, inl, inr, set, ℕ, zero, suc, Bool, true, false, List, [], Some, None, ap, arith, drop, get_or, length, min, refl, replicate, sym, take, ◌∙◌}
use Rattle.std.specs.Prelude.{if◌then◌else◌, nat_eq, nat_le}
use Rattle.std.proofs.lemmas.Bool.Decides.{Decides-eqb}
use Rattle.std.proofs.lemmas.Bool.{cases_eq, le-leb, lt-leb, ne_eqb}
use Rattle.std.proofs.lemmas.List.{drop_all, drop_more, get_or-set_other, get_or-set_same, take_more}
use Rattle.d64_image.specs.Places.{index_of}
use Rattle.d64_image.specs.declared.place.Place.{Place}
use Rattle.disk_layout.specs.Directory.{map_place}
use Rattle.damaged_files.specs.reached.Owned.{CountsAll, owners_at}
use Rattle.damaged_files.specs.reached.Sharing.{count_at, first_shared}
use Rattle.damaged_files.specs.declared.reached.sharing.Owners.{Owners}

by-first : (b : Bool) (k m n : ℕ) → k ≡ m + n → (if b then suc k else k) ≡ (if b then suc m else m) + n
by-first true k m n e = omega (arith, e)
by-first false k m n e = e

zero-add : (n : ℕ) → n ≡ 0 + n
zero-add n = omega arith

pub count-append : (i : ℕ) (xs ys : List Place) → count_at i (xs ++ ys) ≡ count_at i xs + count_at i ys
unfolding count_at
count-append i [] ys = zero-add (count_at i ys)
count-append i (p ∷ xs) ys = by-first (nat_eq (index_of p) i) _ _ _ (count-append i xs ys)

-- a table of zeros
abbrev zeros : ℕ → List ℕ
zeros n = replicate n 0

pub zeros-at : (n i : ℕ) → get_or (zeros n) i 0 ≡ 0
zeros-at zero i = refl
zeros-at (suc n) zero = refl
zeros-at (suc n) (suc i) = zeros-at n i

-- one more counted, or several
pub count-step : (a x y c d : ℕ) → min 2 x ≡ min 2 (a + c) → min 2 y ≡ min 2 (x + d) → min 2 y ≡ min 2 (a + (c + d))
count-step a x y c d first more = omega (arith, first, more)

pub count-none : (i a : ℕ) → min 2 a ≡ min 2 (a + count_at i [])
unfolding count_at
count-none i a = omega arith

pub count-next : (i k : ℕ) (ps : List Place) (p : Place) (a x y : ℕ) → k < length ps → get_or ps k p ≡ p
    → min 2 x ≡ min 2 (a + count_at i (take k ps)) → min 2 y ≡ min 2 (x + count_at i (p ∷ []))
    → min 2 y ≡ min 2 (a + count_at i (take (k + 1) ps))
count-next i k ps p a x y inside is so_far more =
    let taken : take (k + 1) ps ≡ take k ps ++ p ∷ [] =
    take_more ps k p inside ∙ ap (λ (q : Place). take k ps ++ q ∷ []) is in
    let both : count_at i (take (k + 1) ps) ≡ count_at i (take k ps) + count_at i (p ∷ []) =
    ap (count_at i) taken ∙ count-append i (take k ps) (p ∷ []) in
    count-step a x y _ _ so_far more ∙ ap (λ (n : ℕ). min 2 (a + n)) (sym both)

-- the map's sector and the directory's
pub count-both : (i w x y : ℕ) (map : Place) (directory : List Place) → w ≡ 0 → map ≡ map_place
    → min 2 x ≡ min 2 (w + count_at i (map ∷ [])) → min 2 y ≡ min 2 (x + count_at i directory)
    → min 2 y ≡ min 2 (count_at i (map_place ∷ directory))
count-both i w x y map directory none is first second =
    let all : count_at i (map_place ∷ directory) ≡ count_at i (map_place ∷ []) + count_at i directory =
    count-append i (map_place ∷ []) directory in
    let one : count_at i (map ∷ []) ≡ count_at i (map_place ∷ []) = ap (λ (p : Place). count_at i (p ∷ [])) is in
    omega (arith, none, first, second, all, one)

-- those sectors, and some more
pub count-more : (i x y : ℕ) (all ps : List Place) → min 2 x ≡ min 2 (count_at i all)
    → min 2 y ≡ min 2 (x + count_at i ps) → min 2 y ≡ min 2 (count_at i (all ++ ps))
count-more i x y all ps first more = omega (arith, first, more, count-append i all ps)

-- one place more in the table
count-one : (i : ℕ) (p : Place) (b : Bool) → nat_eq (index_of p) i ≡ b → count_at i (p ∷ []) ≡ (if b then 1 else 0)
unfolding count_at
count-one i p b is = ap (λ (t : Bool). if t then 1 else 0) is

at-index : (i : ℕ) (p : Place) → index_of p ≡ i → count_at i (p ∷ []) ≡ 1
at-index i p is = count-one i p true ((Decides-eqb (index_of p) i).1 is)

elsewhere : (i : ℕ) (p : Place) → index_of p ≢ i → count_at i (p ∷ []) ≡ 0
elsewhere i p other = count-one i p false (ne_eqb (index_of p) i other)

pub one-added : (cs : List ℕ) (p : Place) (index c : ℕ) → index ≡ index_of p → index < length cs → c ≡ get_or cs index 0
    → (i : ℕ) → min 2 (get_or (set cs index (c + 1)) i 0) ≡ min 2 (get_or cs i 0 + count_at i (p ∷ []))
one-added cs p index c is inside had i = elim (cases_eq index i) [
  | inl same ↦
      let here : get_or (set cs index (c + 1)) i 0 ≡ c + 1 =
      ap (λ (k : ℕ). get_or (set cs index (c + 1)) k 0) (sym same) ∙ get_or-set_same cs index (c + 1) 0 inside in
      let before : get_or cs i 0 ≡ c = ap (λ (k : ℕ). get_or cs k 0) (sym same) ∙ sym had in
      omega (arith, here, before, at-index i p (sym is ∙ same))
  | inr other ↦
      let here : get_or (set cs index (c + 1)) i 0 ≡ get_or cs i 0 = get_or-set_other cs index i (c + 1) 0 (λ e. other (sym e)) in
      omega (arith, here, elsewhere i p (λ e. other (is ∙ e)))
]

pub one-kept : (cs : List ℕ) (p : Place) (index : ℕ) → index ≡ index_of p → 2 ≤ get_or cs index 0
    → (i : ℕ) → min 2 (get_or cs i 0) ≡ min 2 (get_or cs i 0 + count_at i (p ∷ []))
one-kept cs p index is many i = elim (cases_eq index i) [
  | inl same ↦
      let here : get_or cs i 0 ≡ get_or cs index 0 = ap (λ (k : ℕ). get_or cs k 0) (sym same) in
      omega (arith, here, many, at-index i p (sym is ∙ same))
  | inr other ↦ omega (arith, elsewhere i p (λ e. other (is ∙ e)))
]

-- the table tells which sectors several have
pub several : (all : List Place) (o : Owners) (p : Place) → CountsAll o all → 2 ≤ owners_at o (index_of p)
    → nat_le 2 (count_at (index_of p) all) ≡ true
several all o p counts many =
    let at = counts p in le-leb 2 (count_at (index_of p) all) (omega (arith, at, many))

pub not-several : (all : List Place) (o : Owners) (p : Place) → CountsAll o all → owners_at o (index_of p) < 2
    → nat_le 2 (count_at (index_of p) all) ≡ false
not-several all o p counts few =
    let at = counts p in lt-leb 2 (count_at (index_of p) all) (omega (arith, at, few))

-- the first shared block, looked for one after another
by-count : (all : List Place) (b : Place) (rest : List Place) (t : Bool) → nat_le 2 (count_at (index_of b) all) ≡ t
    → first_shared all (b ∷ rest) ≡ (if t then Some b else first_shared all rest)
unfolding first_shared
by-count all b rest t is = ap (λ (u : Bool). if u then Some b else first_shared all rest) is

pub shared-here : (all ps : List Place) (k : ℕ) (b : Place) (o : Owners) → CountsAll o all → k < length ps
    → get_or ps k b ≡ b → 2 ≤ owners_at o (index_of b) → first_shared all ps ≡ first_shared all (drop k ps)
    → Some b ≡ first_shared all ps
shared-here all ps k b o counts inside is many so_far =
    let rest : drop k ps ≡ b ∷ drop (k + 1) ps = drop_more ps k b inside ∙ ap (λ (q : Place). q ∷ drop (k + 1) ps) is in
    sym (so_far ∙ ap (first_shared all) rest ∙ by-count all b (drop (k + 1) ps) true (several all o b counts many))

pub shared-later : (all ps : List Place) (k : ℕ) (b : Place) (o : Owners) → CountsAll o all → k < length ps
    → get_or ps k b ≡ b → owners_at o (index_of b) < 2 → first_shared all ps ≡ first_shared all (drop k ps)
    → first_shared all ps ≡ first_shared all (drop (k + 1) ps)
shared-later all ps k b o counts inside is few so_far =
    let rest : drop k ps ≡ b ∷ drop (k + 1) ps = drop_more ps k b inside ∙ ap (λ (q : Place). q ∷ drop (k + 1) ps) is in
    so_far ∙ ap (first_shared all) rest ∙ by-count all b (drop (k + 1) ps) false (not-several all o b counts few)

pub shared-none : (all ps : List Place) (k : ℕ) → length ps ≤ k → first_shared all ps ≡ first_shared all (drop k ps)
    → None ≡ first_shared all ps
unfolding first_shared
shared-none all ps k end so_far = sym (so_far ∙ ap (first_shared all) (drop_all k ps end))
