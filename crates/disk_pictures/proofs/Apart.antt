-- The marks of a map tell the sectors of different entries apart.
use Rattle.std.proofs.Common.{◌≡◌, ◌<◌, ◌≤◌, ◌+◌, ◌%◌, ◌/◌, ◌↔◌, ℕ, suc, Bool, true, false, List, [], ◌∷◌, length, ap}
use Rattle.std.proofs.Common.{refl, subst, sym, arith}
use Rattle.std.specs.Prelude.{IsFalse, Option, if◌then◌else◌}
use Rattle.std.proofs.lemmas.Bool.{false≢true, ltb-false}
use Rattle.d64_image.specs.Images.{Sector}
use Rattle.d64_image.specs.declared.place.Place.{Place}
use Rattle.disk_layout.specs.Directory.{map_place}
use Rattle.disk_layout.specs.Layout.{File, Layout}
use Rattle.disk_layout.specs.declared.faults.Fault.{Fault}
use Rattle.disk_pictures.specs.Drawings.{has, owner_among, owner_of}
use Rattle.disk_pictures.specs.Maps.{IsEntrys, digit, entry_mark, is_wide, owner_mark, owner_second, sector_mark}
use Rattle.disk_pictures.specs.Texts.{is_fault_at, is_free}
use Rattle.disk_pictures.specs.declared.owners.Owner.{Owner}
use Rattle.disk_pictures.specs.declared.owners.Owner.TheVariants as owner

-- the entry that has it is one of the first n
abbrev IsBelow : ℕ → Owner → Type 0
IsBelow n (owner.Blocks k) = k < n
IsBelow n (owner.Sides k) = k < n
IsBelow n o = Unit {0}

among-below : (k : ℕ) (fs : List File) (p : Place) → IsBelow (k + length fs) (owner_among k fs p)
unfolding owner_among
among-below k [] p = tt
among-below k (f ∷ fs) p = by (has f.blocks p) (has f.sides p) (among-below (k + 1) fs p)
  where
    by : (b s : Bool) → IsBelow (k + 1 + length fs) (owner_among (k + 1) fs p)
        → IsBelow (k + suc (length fs))
        (if b then owner.Blocks k else (if s then owner.Sides k else owner_among (k + 1) fs p))
    by true s rest = omega arith
    by false true rest = omega arith
    by false false rest =
        let more : k + 1 + length fs ≡ k + suc (length fs) = omega arith in
        subst (λ (n : ℕ). IsBelow n (owner_among (k + 1) fs p)) more rest

owner-below : (l : Layout) (p : Place) → IsBelow (length l.files) (owner_of l p)
unfolding owner_of
owner-below l p = by (has (map_place ∷ []) p) (has l.directory p)
  where
    by : (m d : Bool) → IsBelow (length l.files)
        (if m then owner.Map else (if d then owner.Directory else owner_among 0 l.files p))
    by true d = tt
    by false true = tt
    by false false =
        let all : 0 + length l.files ≡ length l.files = omega arith in
        subst (λ (n : ℕ). IsBelow n (owner_among 0 l.files p)) all (among-below 0 l.files p)

first : List ℕ → ℕ
first [] = 0
first (x ∷ xs) = x

second : List ℕ → ℕ
second [] = 0
second (x ∷ xs) = first xs

-- what is printed of a sector by its owner
abbrev shown : Bool → Sector → Place → Owner → List ℕ
shown wide map p o = owner_mark map p o ∷ (if wide then owner_second map p o ∷ [] else [])

second-same : (wide : Bool) (x y s t : ℕ) → x ∷ (if wide then s ∷ [] else []) ≡ y ∷ (if wide then t ∷ [] else [])
    → wide ≡ true → s ≡ t
unfolding first second
second-same true x y s t e w = ap second e
second-same false x y s t e w = absurd (false≢true w)

same-number : (wide : Bool) (n k j : ℕ) → n ≤ 144 → (wide ≡ false → n ≤ 26) → k < n → j < n
    → 97 + k % 26 ≡ 97 + j % 26 → (wide ≡ true → digit k ≡ digit j) → k ≡ j
same-number true n k j most few a b e d =
    let f : 48 + k / 26 % 10 ≡ 48 + j / 26 % 10 = d refl in
    omega (arith, most, a, b, e, f)
same-number false n k j most few a b e d =
    let less : n ≤ 26 = few refl in
    omega (arith, less, a, b, e)

small-capital : (k j : ℕ) → 97 + k % 26 ≡ 65 + j % 26 → ⊥
small-capital k j e = omega (arith, e)

small-sign : (k c : ℕ) → c < 97 → 97 + k % 26 ≡ c → ⊥
small-sign k c low e = omega (arith, low, e)

capital-sign : (k c : ℕ) → c < 65 → 65 + k % 26 ≡ c → ⊥
capital-sign k c low e = omega (arith, low, e)

either-low : (b : Bool) → (if b then 46 else 63) < 65
either-low true = omega arith
either-low false = omega arith

low-97 : (c : ℕ) → c < 65 → c < 97
low-97 c low = omega (arith, low)

apart : (wide : Bool) (n : ℕ) (map : Sector) (p q : Place) (o r : Owner) → n ≤ 144 → (wide ≡ false → n ≤ 26)
    → IsEntrys o → IsBelow n o → IsBelow n r → shown wide map p o ≡ shown wide map q r → o ≡ r
unfolding first
apart wide n map p q (owner.Blocks k) (owner.Blocks j) most few own a b e =
    ap (λ (i : ℕ). owner.Blocks i) (same-number wide n k j most few a b (ap first e) (second-same wide _ _ _ _ e))
apart wide n map p q (owner.Blocks k) (owner.Sides j) most few own a b e = absurd (small-capital k j (ap first e))
apart wide n map p q (owner.Blocks k) owner.Map most few own a b e =
    absurd (small-sign k 42 (omega arith) (ap first e))
apart wide n map p q (owner.Blocks k) owner.Directory most few own a b e =
    absurd (small-sign k 61 (omega arith) (ap first e))
apart wide n map p q (owner.Blocks k) owner.Nobody most few own a b e =
    absurd (small-sign k _ (low-97 _ (either-low (is_free map q))) (ap first e))
apart wide n map p q (owner.Sides k) (owner.Sides j) most few own a b e =
    ap (λ (i : ℕ). owner.Sides i)
    (same-number wide n k j most few a b (let h : 65 + k % 26 ≡ 65 + j % 26 = ap first e in omega (arith, h))
    (second-same wide _ _ _ _ e))
apart wide n map p q (owner.Sides k) (owner.Blocks j) most few own a b e = absurd (small-capital j k (sym (ap first e)))
apart wide n map p q (owner.Sides k) owner.Map most few own a b e =
    absurd (capital-sign k 42 (omega arith) (ap first e))
apart wide n map p q (owner.Sides k) owner.Directory most few own a b e =
    absurd (capital-sign k 61 (omega arith) (ap first e))
apart wide n map p q (owner.Sides k) owner.Nobody most few own a b e =
    absurd (capital-sign k _ (either-low (is_free map q)) (ap first e))
apart wide n map p q owner.Map r most few own a b e = absurd own
apart wide n map p q owner.Directory r most few own a b e = absurd own
apart wide n map p q owner.Nobody r most few own a b e = absurd own

-- and sectors of one entry look alike, wherever they are
own-look : (wide : Bool) (map : Sector) (p q : Place) (o : Owner) → IsEntrys o → shown wide map p o ≡ shown wide map q o
own-look wide map p q (owner.Blocks k) own = refl
own-look wide map p q (owner.Sides k) own = refl
own-look wide map p q owner.Map own = absurd own
own-look wide map p q owner.Directory own = absurd own
own-look wide map p q owner.Nobody own = absurd own

pub marks-apart : (l : Layout) → length l.files ≤ 144 → (v : Option Fault) (map : Sector) (p q : Place)
    → IsFalse (is_fault_at v p) → IsFalse (is_fault_at v q) → IsEntrys (owner_of l p)
    → (sector_mark v map l p ≡ sector_mark v map l q) ↔ (owner_of l p ≡ owner_of l q)
marks-apart l most v map p q here there own = rw (here, there) (
  apart (is_wide l) (length l.files) map p q (owner_of l p) (owner_of l q) most (ltb-false 26 (length l.files)) own
      (owner-below l p) (owner-below l q),
  λ e. subst (λ r. shown (is_wide l) map p (owner_of l p) ≡ shown (is_wide l) map q r) e
      (own-look (is_wide l) map p q (owner_of l p) own),
)

-- a block has the mark that its entry's line begins with
pub lines-marked : (l : Layout) (v : Option Fault) (map : Sector) (p : Place) (k : ℕ) → IsFalse (is_fault_at v p)
    → owner_of l p ≡ owner.Blocks k → sector_mark v map l p ≡ entry_mark (is_wide l) k
lines-marked l v map p k here own = rw (here, own) refl
